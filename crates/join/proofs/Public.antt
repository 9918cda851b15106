-- The public operation: refused in order, or the join over the graph of file and question.
use mathlib.Core.Path.{◌≡◌, ap, subst, ◌∙◌, fun_ext}
use mathlib.Core.List.Memᴰ
use mathlib.Core.List.{List}
use mathlib.Core.Logic.{⊎_elim}
use Prim.Native.Nat.{ℕ, ◌<◌}
use lib.ListN.{length}
use native.Mathlib.Omega.{arith}
use Rattle.refusals.specs.Faults.{sound}
use Rattle.refusals.specs.Answers.{Told}
use Rattle.refusals.proofs.Room.{room_passes, room_left}
use Rattle.format.specs.Format.{person_count}
use Rattle.format.specs.Laid.{Laid}
use Rattle.format.specs.declared.layout.Counts.{Counts}
use Rattle.ways.specs.Graph.{Graph, ◌∈◌}
use Rattle.ways.specs.ByHops.{by_hops}
use Rattle.ways.specs.Halves.{halves}
use Rattle.ways.specs.Sizes.{record_size}
use Rattle.ways.proofs.Cases.{lt_or_le}
use Rattle.compact.specs.declared.Graph as lent
use Rattle.compact.specs.Compact.{graph_of}
use Rattle.half_chains.specs.Shelf.{Seeking}
use Rattle.question.specs.declared.Question.{Question}
use Rattle.question.specs.Asked.{asked_fault, asked_room_fault}
use Rattle.question.specs.Filled.{Filled}
use Rattle.question.proofs.Answerable.{Answerable, asked_answerable, asked_differ}
use Rattle.question.proofs.Leads.{next_none}
use Rattle.join.specs.Lists.{halves_for, chains_for, halves_fault, join_fault}
use Rattle.join.specs.Answers.{Answered, Joins}

module _ (file : List ℕ) (q : Question) (out : List ℕ) (passed : asked_room_fault file q (length out) ≡ sound) where
  sound_asked : asked_fault file q ≡ sound
  sound_asked = (room_passes (asked_fault file q) (length out) passed).0

  pub join_asked : Answerable file q
  join_asked = asked_answerable file q sound_asked

  module _ {starts targets : List ℕ} (f : Filled file q starts targets) {counts : Counts} (laid : Laid file counts) where
    -- whoever is no person of the file has no links
    low : (p v : ℕ) → v ∈ graph_of starts targets p → p < counts.persons
    low p v m = ⊎_elim (λ l. omega (arith, l, laid.persons)) (λ l. absurd (Memᴰ.not-nil (subst (λ r. v ∈ r) (f.graph p ∙ next_none file q p l) m))) (lt_or_le p (person_count file))

    pub join_seeking : {graph : lent.Graph} → graph.starts.now ≡ starts → graph.targets.now ≡ targets → Seeking graph (record { persons = counts.persons; from = q.from; to = q.to; hops = q.hops })
    join_seeking s t =
        let p = join_asked.proper in
        record { known = laid.many_persons; low = rw (s, t) low; source = omega (arith, p.from, laid.persons); target = omega (arith, p.to, laid.persons); differ = asked_differ file q sound_asked; few = p.most }

    same_halves : halves (graph_of starts targets) counts.persons q.from q.to q.hops ≡ halves_for file q
    same_halves = ap (λ (n : ℕ). halves (graph_of starts targets) n q.from q.to q.hops) laid.persons ∙ ap (λ (g : Graph). halves g (person_count file) q.from q.to q.hops) (fun_ext f.graph)

    same_chains : by_hops (graph_of starts targets) q.from q.to q.hops ≡ chains_for file q
    same_chains = ap (λ (g : Graph). by_hops g q.from q.to q.hops) (fun_ext f.graph)

    -- 18 is all that is left to refuse
    same_fault : (working : List ℕ) → join_fault file q working out ≡ halves_fault record_size (length working) (halves_for file q)
    same_fault working =
        let p = room_passes (asked_fault file q) (length out) passed in
        room_left (length out) (halves_fault record_size (length working) (halves_for file q)) p.0 p.1

    pub join_joins : {working working' out' : List ℕ} {r : Told} → Answered (halves (graph_of starts targets) counts.persons q.from q.to q.hops) (by_hops (graph_of starts targets) q.from q.to q.hops) working working' out out' r → Joins file q working working' out out' r
    join_joins {working} {working'} {out'} {r} j =
        let a : Answered (halves_for file q) (chains_for file q) working working' out out' r =
        subst (λ c. Answered (halves_for file q) c working working' out out' r) same_chains
        (subst (λ l. Answered l (by_hops (graph_of starts targets) q.from q.to q.hops) working working' out out' r) same_halves j) in
        let e : join_fault file q working out ≡ halves_fault record_size (length working) (halves_for file q) = same_fault working in
        record { answers = rw e a.answers; shelf = rw e a.shelf; cells = rw e a.cells }
