-- The links of a graph as it is lent. Definitions only.
use Rattle.ways.specs.Graph.{Graph}
use Rattle.compact.specs.Compact.{graph_of}
use Rattle.compact.specs.declared.Graph as lent

-- the persons that each has links to
abbrev pub links_of : lent.Graph → Graph
links_of g = graph_of g.starts.now g.targets.now
