-- A graph of `src/` as one of the definitions.
use Rattle.matching.specs.Graph as definition
use Rattle.matching.specs.Graph.{over}
use Rattle.graph.specs.declared.Graph.{Graph}

abbrev pub graph_is : Graph → definition.Graph
graph_is g = over g.size g.adjacency.now g.weights.now
