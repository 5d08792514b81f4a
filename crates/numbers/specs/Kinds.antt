-- The numbers of the answer-kinds. Assumes nothing.
use Rattle.std.specs.Prelude.{ℕ}
use Rattle.numbers.specs.declared.AnswerKind.{AnswerKind}
use Rattle.numbers.specs.declared.AnswerKind.TheVariants as kind

abbrev pub kind_number : AnswerKind → ℕ
kind_number kind.Opened = 1
kind_number kind.Witness = 2
kind_number kind.Pair = 3
kind_number kind.Row = 4
kind_number kind.Replayed = 5
kind_number kind.Read = 6
kind_number kind.Drawn = 7
