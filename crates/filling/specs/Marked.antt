-- An edge that is marked in the table of the edges before it, was marked there before, or is none. Assumes nothing.
use Rattle.std.specs.Prelude.{◌≡◌, refl, ◌≢◌, List, ◌∷◌, ℕ, ◌+◌, ◌*◌, get_or, set}
use Rattle.std.proofs.Common.{sym, ◌∙◌}
use Rattle.matching.specs.Pairs.{Pair, pair_of}
use Rattle.matching.specs.Model.{Named}
use Rattle.matching.specs.Filling.{among, cells}
use Rattle.matching.specs.Computed.{among_bit}
use Rattle.laws.specs.Cells.{cells_at, cells_more}
use Rattle.filling.specs.declared.Mark.{Mark}
use Rattle.filling.specs.declared.Mark.TheVariants.{New, Old, Refused}

-- for any edges that the table may have
pub record MarksNew (n a b : ℕ) (table table' : List ℕ) : Type 0 where
  pub named : Named n a b
  pub absent : (edges : List Pair) → table ≡ cells n edges → among (pair_of a b) edges ≡ 0
  pub marks : (edges : List Pair) → table ≡ cells n edges → table' ≡ cells n (pair_of a b ∷ edges)

pub record MarksOld (n a b : ℕ) (table table' : List ℕ) : Type 0 where
  pub named : Named n a b
  pub present : (edges : List Pair) → table ≡ cells n edges → among (pair_of a b) edges ≡ 1
  pub kept : table' ≡ table

pub record MarksNone (n a b : ℕ) : Type 0 where
  pub none : ¬ Named n a b

abbrev pub Marked : (n a b : ℕ) → List ℕ → Mark → List ℕ → Type 0
Marked n a b table New table' = MarksNew n a b table table'
Marked n a b table Old table' = MarksOld n a b table table'
Marked n a b table Refused table' = MarksNone n a b

module _ {n a b : ℕ} {table : List ℕ} (h : Named n a b) where
  pub mark_new : get_or table (a * n + b) 0 ≡ 0 → MarksNew n a b table (set (set table (a * n + b) 1) (b * n + a) 1)
  mark_new z = record {
    named = h;
    absent = λ edges e. sym (cells_at n edges a b h.0 h.1) ∙ (rw e at z);
    marks = λ edges e. rw e (cells_more n edges a b h);
  }

  pub mark_old : get_or table (a * n + b) 0 ≢ 0 → MarksOld n a b table table
  mark_old d = record {
    named = h;
    present = λ edges e. among_bit (pair_of a b) edges (λ z. d (rw e (cells_at n edges a b h.0 h.1 ∙ z)));
    kept = refl;
  }
