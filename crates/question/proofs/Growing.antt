-- How the compact graph grows: link by link within a person's row, and row by row.
use mathlib.Core.Path.{◌≡◌, sym, ap, subst, ◌∙◌}
use mathlib.Core.Bool.{true, false}
use mathlib.Core.List.{List, ◌++◌, append-nil}
use Prim.Native.Nat.{ℕ, suc, ◌+◌, ◌-◌, ◌≤◌, ◌<◌}
use lib.ListN.{length, get_or, take, set, replicate, length-append, length-set, length-replicate, get_or-replicate, get_or-eq_default}
use lib.Seq.{slice, take-take, take-append-le, take-suc-set, drop_at, drop-nil, length-take-le, append_snoc, get_or-set_same, get_or-set_other}
use native.Mathlib.Numerals.{add-one}
use native.Mathlib.Decide.{ℕ_discrete, dec_lt}
use native.Mathlib.Omega.{arith}
use Rattle.ways.specs.Graph.{keep}
use Rattle.ways.specs.Order.{Rising}
use Rattle.format.specs.Format.{person_count, link_count, feed_count, counts_in, row, target, link_in}
use Rattle.refusals.specs.Faults.{sound}
use Rattle.checking.specs.Checked.{file_fault, before_in}
use Rattle.format.specs.Laid.{Laid}
use Rattle.format.specs.declared.layout.Counts.{Counts}
use Rattle.checking.proofs.Passed.{Passed, sound_rules, Lies, row_lies}
use Rattle.checking.proofs.Linked.{Ruled, passed_link}
use Rattle.compact.specs.Compact.{persons, graph_of, links as most_links}
use Rattle.question.specs.Admission.{admitted, numbers_from, next}
use Rattle.question.specs.Inside.{Fed}
use Rattle.question.specs.Filled.{People, Fillable, Appendable, Appended, Filled}
use Rattle.question.specs.declared.Question.{Question}
use Rattle.question.proofs.Leads.{led, next_none, next_some, next_rising}

-- a cell that was set to a person
pub people_set : (targets : List ℕ) (i : ℕ) {v : ℕ} → People targets → v < persons → People (set targets i v)
people_set targets i {v} p h j l = go (ℕ_discrete j i)
  where
    inside : j < length targets
    inside = omega (arith, length-set targets i v)

    go : Dec (j ≡ i) → get_or (set targets i v) j 0 < persons
    go (yes e) = rw (ap (λ (k : ℕ). get_or (set targets i v) k 0) e ∙ get_or-set_same targets i v 0 (omega (arith, inside))) h
    go (no n) = rw (get_or-set_other targets i j v 0 n) (p j inside)

-- Link by link: what is written, and what the links still to come will add, are together what the row adds.
pub record Appending (file : List ℕ) (q : Question) (person start stop : ℕ) (before : List ℕ) (link end : ℕ) (targets : List ℕ) : Type 0 where
  pub from : row file person ≤ link
  pub to : link ≤ stop
  pub room : end ≤ link
  pub links : length targets ≡ most_links
  pub people : People targets
  pub rest : take end targets ++ led file q link (stop - link) ≡ take start before ++ next file q person

module _ {file : List ℕ} {counts : Counts} {person start : ℕ} {before : List ℕ} (laid : Laid file counts) (a : Appendable file person start before) (h : person < counts.persons) where
  passed : Passed file (person_count file) (link_count file) (feed_count file)
  passed = sound_rules file a.faultless

  -- the row lies among the links
  pub append_lies : Lies file counts person
  append_lies = row_lies laid passed (omega (arith, laid.persons))

  module _ {q : Question} {stop : ℕ} (s : stop ≡ row file (person + 1)) where
    pub appending_starts : {link : ℕ} → link ≡ row file person → Appending file q person start stop before link start before
    appending_starts {link} e =
        let lies = append_lies in record {
          from = omega arith;
          to = omega (arith, lies);
          room = omega (arith, a.room (omega (arith, laid.persons)));
          links = a.links;
          people = a.people;
          rest = rw (e, s, next_some file q person (omega (arith, laid.persons)));
        }

    module _ {link end : ℕ} {targets : List ℕ} (i : Appending file q person start stop before link end targets) where
      module _ (l : link < stop) where
        pub appending_link : Ruled (counts_in file) person (before_in file person link) (link_in file link)
        appending_link = passed_link passed person link (omega (arith, laid.persons)) i.from (omega arith)

        pub appending_fed : Fed file link
        appending_fed = let lies = append_lies in record { below = omega (arith, lies, laid.links); fed = appending_link.fed }

        pub appending_person : target file link < persons
        appending_person = omega (arith, appending_link.person, laid)

        left : stop - link ≡ suc (stop - (link + 1))
        left = omega arith

        -- a link that is not admitted adds nobody
        pub appending_keeps : {end' : ℕ} {targets' : List ℕ} → admitted file q link ≡ false → targets' ≡ targets → end' ≡ end → Appending file q person start stop before (link + 1) end' targets'
        unfolding numbers_from keep
        appending_keeps e same stays = rw (same, stays) record {
          from = omega (arith, i.from);
          to = omega arith;
          room = omega (arith, i.room);
          links = i.links;
          people = i.people;
          rest = rw (add-one link) (rw (left, e, add-one link) at i.rest);
        }

        -- an admitted link adds the person that it leads to
        pub appending_adds : {v end' : ℕ} {targets' : List ℕ} → admitted file q link ≡ true → v ≡ target file link → targets' ≡ set targets end v → end' ≡ end + 1
            → Appending file q person start stop before (link + 1) end' targets'
        unfolding numbers_from keep
        appending_adds {v} e t sets moves =
            let lies = append_lies in
            let fits : end < length targets = omega (arith, i.room, i.links, lies, laid) in
            rw (sets, moves) record {
              from = omega (arith, i.from);
              to = omega arith;
              room = omega (arith, i.room);
              links = length-set targets end v ∙ i.links;
              people = people_set targets end i.people (omega (arith, appending_person));
              rest = rw (add-one end, take-suc-set targets end v fits, append_snoc (take end targets) v (led file q (link + 1) (stop - (link + 1))), add-one link, t) (rw (left, e, add-one link) at i.rest);
            }

      -- the row's end
      pub appending_ends : stop ≤ link → Appended file q person start end before targets
      unfolding numbers_from keep
      appending_ends l =
          let lies = append_lies in
          let none : stop - link ≡ 0 = omega arith in record {
            written = sym (append-nil (take end targets)) ∙ (rw none at i.rest);
            people = i.people;
            within = omega (arith, i.room, i.to, lies, laid);
            room = λ inside. omega (arith, i.room, i.to);
          }

-- whoever is not in the file adds nobody
pub appended_none : {file : List ℕ} {counts : Counts} {person start : ℕ} {before : List ℕ} {q : Question} → Laid file counts → Appendable file person start before → counts.persons ≤ person → Appended file q person start start before before
appended_none {file} {counts} {person} {start} {before} {q} laid a h = record {
  written = rw (next_none file q person (omega (arith, laid.persons))) (sym (append-nil (take start before)));
  people = a.people;
  within = a.within;
  room = λ inside. absurd (omega (arith, laid.persons));
}

-- Row by row: the rows of all persons so far are there.
pub record Filling (file : List ℕ) (q : Question) (person end : ℕ) (starts targets : List ℕ) : Type 0 where
  pub to : person ≤ persons
  pub rows : length starts ≡ suc persons
  pub links : length targets ≡ most_links
  pub people : People targets
  pub within : end ≤ most_links
  pub room : person < person_count file → end ≤ row file person
  pub last : get_or starts person 0 ≡ end
  pub rise : (p : ℕ) → p < person → get_or starts p 0 ≤ get_or starts (p + 1) 0
  pub ends : (p : ℕ) → p < person → get_or starts (p + 1) 0 ≤ end
  pub graph : (p : ℕ) → p < person → graph_of starts targets p ≡ next file q p

module _ {file : List ℕ} {counts : Counts} {q : Question} {person end : ℕ} {starts targets : List ℕ} (laid : Laid file counts) (faultless : file_fault file ≡ sound) (f : Filling file q person end starts targets) where
  module _ {stop : ℕ} {after : List ℕ} (h : person < persons) (same : length after ≡ length targets) (a : Appended file q person end stop targets after) where
    wrote : length (take stop after) ≡ stop
    wrote = length-take-le stop after (omega (arith, a.within, f.links))

    had : length (take end targets) ≡ end
    had = length-take-le end targets (omega (arith, f.within, f.links))

    grown : end ≤ stop
    grown = omega (arith, wrote, had, ap length a.written, length-append (take end targets) (next file q person))

    -- the starts before the new one
    kept : (p : ℕ) → p < person + 1 → get_or (set starts (person + 1) stop) p 0 ≡ get_or starts p 0
    kept p l = get_or-set_other starts (person + 1) p stop 0 (λ e. omega arith)

    new : get_or (set starts (person + 1) stop) (person + 1) 0 ≡ stop
    new = get_or-set_same starts (person + 1) stop 0 (omega (arith, f.rows))

    -- a row so far is as it was
    row_kept : (p : ℕ) → p < person → graph_of (set starts (person + 1) stop) after p ≡ next file q p
    row_kept p l =
        let low : get_or starts (p + 1) 0 ≤ stop = omega (arith, f.ends p l, grown) in
        let fits : get_or starts (p + 1) 0 ≤ length (take end targets) = omega (arith, f.ends p l, had) in
        rw (kept p (omega arith), kept (p + 1) (omega arith), ← take-take (get_or starts (p + 1) 0) stop after low, a.written, take-append-le (get_or starts (p + 1) 0) (take end targets) (next file q person) fits, take-take (get_or starts (p + 1) 0) end targets (f.ends p l))
        (f.graph p l)

    row_new : graph_of (set starts (person + 1) stop) after person ≡ next file q person
    row_new = rw (kept person (omega arith), f.last, new, a.written) (drop_at (take end targets) (next file q person) end had)

    pub filling_adds : Filling file q (person + 1) stop (set starts (person + 1) stop) after
    filling_adds = record {
      to = omega arith;
      rows = length-set starts (person + 1) stop ∙ f.rows;
      links = same ∙ f.links;
      people = a.people;
      within = a.within;
      room = λ l. a.room (omega (arith, laid.persons));
      last = new;
      rise = λ p l. rise p (ℕ_discrete p person) l;
      ends = λ p l. ends p (ℕ_discrete p person) l;
      graph = λ p l. graph p (ℕ_discrete p person) l;
    }
      where
        rise : (p : ℕ) → Dec (p ≡ person) → p < person + 1 → get_or (set starts (person + 1) stop) p 0 ≤ get_or (set starts (person + 1) stop) (p + 1) 0
        rise p (yes e) l = rw (e, kept person (omega arith), new) (omega (arith, f.last, grown))
        rise p (no n) l = rw (kept p l, kept (p + 1) (omega arith)) (f.rise p (omega arith))

        ends : (p : ℕ) → Dec (p ≡ person) → p < person + 1 → get_or (set starts (person + 1) stop) (p + 1) 0 ≤ stop
        ends p (yes e) l = rw (e, new) (omega arith)
        ends p (no n) l = rw (kept (p + 1) (omega arith)) (omega (arith, f.ends p (omega arith), grown))

        graph : (p : ℕ) → Dec (p ≡ person) → p < person + 1 → graph_of (set starts (person + 1) stop) after p ≡ next file q p
        graph p (yes e) l = rw e row_new
        graph p (no n) l = row_kept p (omega arith)

  -- all rows are there
  pub filling_ends : persons ≤ person → Filled file q starts targets
  filling_ends h = record {
    graph = graph;
    compact = record {
      starts = f.rows;
      room = f.links;
      rise = λ p l. f.rise p (omega arith);
      ends = λ p l. omega (arith, f.ends p (omega arith), f.within, f.links);
      people = f.people;
      rising = λ p. subst (Rising ◌<◌) (sym (graph p)) (next_rising (sound_rules file faultless) q p);
    };
  }
    where
      none : (p : ℕ) → persons ≤ p → graph_of starts targets p ≡ next file q p
      none p l =
          ap (λ (e : ℕ). slice (get_or starts p 0) e targets) (get_or-eq_default starts 0 {n = p + 1} (omega (arith, f.rows)))
          ∙ drop-nil (get_or starts p 0)
          ∙ sym (next_none file q p (omega (arith, laid)))

      graph : (p : ℕ) → graph_of starts targets p ≡ next file q p
      graph p = go (dec_lt p persons)
        where
          go : Dec (p < persons) → graph_of starts targets p ≡ next file q p
          go (yes l) = f.graph p (omega arith)
          go (no n) = none p (omega arith)

-- rooms of zeros are room for the graph of any file that passed
pub zeros_fillable : {file : List ℕ} → file_fault file ≡ sound → Fillable file (replicate (suc persons) 0) (replicate most_links 0)
zeros_fillable faultless = record {
  faultless = faultless;
  rows = length-replicate {A = ℕ} (suc persons) 0;
  links = length-replicate {A = ℕ} most_links 0;
  people = λ i l. rw (get_or-replicate {A = ℕ} most_links i 0 0 (omega (arith, length-replicate {A = ℕ} most_links 0))) (omega arith);
}
