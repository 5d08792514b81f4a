-- `compact::is_inverse_over` meets its contract: the filled table holds the Tutte matrix at the listed vertices. What exchange leaves of it
-- is the inverse, with which the buffer is compared, or shows that there is none. Assumes nothing.
use Rattle.std.proofs.Common.{ℕ, List, length, take, replicate, ◌∙◌}
use Rattle.lists.specs.Part.{length_part}
use Rattle.lists.specs.Table.{vector}
use Rattle.residue.specs.Modulus.{modulus}
use Rattle.skew.specs.Subset.{marked}
use Rattle.skew.specs.Listing.{along}
use Rattle.matching.specs.Graph.{Graph, tutte}
use Rattle.graph.specs.Meaning.{graph_is}
use Rattle.sequence.specs.Formed.{tells_false}
use Rattle.tutte.specs.Table.{Filled, listed}
use Rattle.exchange.specs.Run.{Holds}
use Rattle.solve.specs.Solved.{Blank, all_in, upper_word}
use Rattle.compact.specs.Compared.{Numbered, numbered_ascending, listed_holds, listed_small, no_inverse, has_inverse, is_clear, is_equal}
use Rattle.compact.proofs.is_inverse_over.Goals as goal

-- the filled table holds the Tutte matrix at the listed vertices, all of which wait
holds : (g : Graph) {marks vertices t t' : List ℕ} → Numbered g.n marks vertices → Blank (length vertices) t
    → Filled (length vertices) (listed g vertices) (length vertices) t t'
    → Holds (length vertices) (along (vector vertices) (tutte g modulus)) (marked (take (length vertices) (replicate 96 1))) t'
holds g N B F = listed_holds g N F _ (all_in _ B.table_square.small)

pub fill_listed-requires-clause-ascending : goal.fill_listed-requires-clause-ascending
fill_listed-requires-clause-ascending c = numbered_ascending c.requires.numbered.0

pub run-requires : goal.run-requires
run-requires c =
    let g = graph_is c.args.graph in
    let B = c.requires.numbered.1 in
    let F = c.fill_listed.ensures in (
      record { small = B.table_square.small; size = F.size ∙ B.table_square.size },
      listed_small g c.requires.numbered.0 F B (upper_word g c.args.graph.words),
      length_part _ 96 1 B.table_square.small,
    )

pub all_equal-requires : goal.all_equal-requires
all_equal-requires c =
    let square = c.requires.numbered.1.table_square in
    record {
      small = c.args.graph.complete.size;
      fits = c.requires.sizes.1;
      below = (numbered_ascending c.requires.numbered.0).below;
      table_square = record { small = square.small; size = c.run.auto.t ∙ c.fill_listed.ensures.size ∙ square.size };
    }

pub returns-then-all_clear : goal.returns-then-all_clear
returns-then-all_clear c =
    let g = graph_is c.args.graph in
    let N = c.requires.numbered.0 in
    let B = c.requires.numbered.1 in
    let wait = all_in _ B.table_square.small in
    let E = c.in-None.ensures _ (holds g N B c.fill_listed.ensures) in
    record {
      when_true = λ q. has_inverse g N wait c.args.inverse.now c.run.new.t E.0 (c.all_clear.ensures.when_true c.if-all_clear.true) (c.all_equal.ensures.when_true q);
      when_false = λ q I. c.all_equal.ensures.when_false q (is_equal g N wait c.args.inverse.now c.run.new.t E.0 I);
    }

pub returns-else-all_clear : goal.returns-else-all_clear
returns-else-all_clear c =
    let g = graph_is c.args.graph in
    let N = c.requires.numbered.0 in
    let B = c.requires.numbered.1 in
    let E = c.in-None.ensures _ (holds g N B c.fill_listed.ensures) in
    rw c.if-all_clear.false
    (tells_false (λ I. c.all_clear.ensures.when_false c.if-all_clear.false (is_clear g N (all_in _ B.table_square.small) c.args.inverse.now c.run.new.t E.0 I)))

pub returns-in-Some : goal.returns-in-Some
returns-in-Some c =
    let g = graph_is c.args.graph in
    let N = c.requires.numbered.0 in
    let B = c.requires.numbered.1 in
    let E = c.in-Some.ensures _ (holds g N B c.fill_listed.ensures) in
    tells_false (no_inverse g N (all_in _ B.table_square.small) c.args.inverse.now E.1)
