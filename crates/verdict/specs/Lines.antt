-- The lines of a graph, and how an opening leads to them. Assumes nothing.
use Rattle.std.specs.Prelude.{◌≡◌, refl, List, [], ◌++◌, ℕ, ◌≤◌, length, take, replicate}
use Rattle.std.proofs.Common.{sym, subst, ◌∙◌, arith}
use Rattle.lists.specs.Part.{length_part, first_part}
use Rattle.lists.specs.Table.{square_small}
use Rattle.lists.specs.Onto.{onto_front}
use Rattle.residue.specs.Modulus.{modulus, modulus_prime}
use Rattle.matching.specs.Decision.{Refusal, accepted, refused}
use Rattle.skew.specs.Subset.{marked}
use Rattle.matching.specs.Graph.{Graph, largest, over, InOrder}
use Rattle.matching.specs.Pairs.{everything, unmatched, pairs_on}
use Rattle.matching.specs.Session.{Session, all_kept}
use Rattle.matching.specs.Causes.{opening_ruling}
use Rattle.matching.specs.Opening.{opened, singular, not_opened, Singular, Buffers, players, Opens, refuses_opening, opens, finds_singular}
use Rattle.matching.specs.Model.{Nonsingular}
use Rattle.matching.specs.Listing.{first_line, pair_lines, witness_lines, letter_full, witness_letter, verdict_line, GraphLines, pairs_up, shows_witness, players_of}
use Rattle.laws.specs.Sound.{GraphFits, opening_accepted}
use Rattle.laws.specs.OpeningOutcome.{every_vertex, count_vertices, table_on, singular_on}
use Rattle.laws.specs.Fresh.{opened_sound}
use Rattle.sequence.specs.Formed.{left_start}
use Rattle.calls.specs.Known.{Known}
use Rattle.opening.specs.Meaning.{buffers}
use Rattle.completion.specs.Completed.{Completed}
use Rattle.text.specs.Puts.{Puts, puts_then}

-- a text with this property is written from a position on
pub record Writes (P : List ℕ → Type 0) (at : ℕ) (before after : List ℕ) (next : ℕ) : Type 0 where
  pub text : List ℕ
  pub lines : P text
  pub puts : Puts at text before after next

-- all lines of a graph with m edges
pub record AllLines (g : Graph) (m : ℕ) (text : List ℕ) : Type 0 where
  pub rest : List ℕ
  pub lines : GraphLines modulus_prime g (players_of g.n) rest
  pub all : text ≡ first_line g.n m ++ rest

-- a session fresh from opening that is known to be sound, in which every vertex is kept
pub record Fresh (n : ℕ) (adjacency weights inverse sequence marks : List ℕ) : Type 0 where
  pub known : Known n 0 adjacency weights inverse sequence all_kept marks
  pub nonsingular : Nonsingular modulus_prime (over n adjacency weights) (players_of n) []

-- the same for some weights
abbrev pub FreshFor : (n : ℕ) (adjacency inverse sequence marks : List ℕ) → Type 0
FreshFor n adjacency inverse sequence marks = (weights : List ℕ) × Fresh n adjacency weights inverse sequence marks

-- what opening leaves of a graph
module _ {n : ℕ} {adjacency weights inverse sequence witness work : List ℕ} where
  -- a session that is opened is known to be sound, and has an inverse
  pub fresh : {s : Session} {inverse' sequence' witness' work' marks : List ℕ}
      → Opens modulus (over n adjacency weights) (players n (buffers inverse sequence witness work)) (buffers inverse sequence witness work) (opened s) (buffers inverse' sequence' witness' work')
      → marks ≡ replicate n 1 → Fresh n adjacency weights inverse' sequence' marks
  unfolding unmatched
  fresh (opens new ok l I) e =
      let o : Opens modulus (over n adjacency weights) (players n (buffers inverse sequence witness work)) (buffers inverse sequence witness work) _ _ = opens new ok l I in
      let k = opened_sound modulus_prime (over n adjacency weights) {b = buffers inverse sequence witness work} o in
      let small : n ≤ largest = ((opening_accepted modulus (over n adjacency weights) (length inverse) (length sequence) (length witness) (length work)).0 ok).1.size in
      record {
        known = record {
          sound = rw k.1 at k.0;
          left = rw (e, ← first_part n largest 1 small) (left_start n _ (take n all_kept) (length_part n largest 1 small));
        };
        nonsingular = (_, (table_on {L = everything} (λ v h. every_vertex n v h) I).is_inverse);
      }

  -- the first words of the witness are the kernel vector
  pub kernel : {f : ℕ} {inverse' sequence' witness' work' : List ℕ}
      → Opens modulus (over n adjacency weights) (players n (buffers inverse sequence witness work)) (buffers inverse sequence witness work) (singular f) (buffers inverse' sequence' witness' work')
      → (length (take n witness') ≡ n) × Singular modulus (over n adjacency weights) (players_of n) f (take n witness')
  kernel (finds_singular f new ok l S) = rw (onto_front new witness n l) (l, singular_on {L = everything} (λ v h. every_vertex n v h) S)

  -- an accepted graph is never refused
  pub not_refused : {r : Refusal} {left : Buffers} → opening_ruling modulus (over n adjacency weights) (length inverse) (length sequence) (length witness) (length work) ≡ accepted
      → Opens modulus (over n adjacency weights) (players n (buffers inverse sequence witness work)) (buffers inverse sequence witness work) (not_opened r) left → ⊥
  not_refused ok (refuses_opening r e) =
      let both : accepted ≡ refused r = sym ok ∙ e in
      let z : ◌≡◌ {A = ℕ} 0 1 = cc in
      omega arith

-- the lines of a completed matching
pub full_lines : {g : Graph} {made : ℕ} {sequence : List ℕ} → g.n ≤ largest → Nonsingular modulus_prime g (players_of g.n) []
    → Completed g (marked (take g.n all_kept)) made sequence
    → GraphLines modulus_prime g (players_of g.n) (pair_lines (pairs_on sequence made) ++ verdict_line letter_full)
full_lines {g} {made} {sequence} small I C =
    let D : Completed g (players_of g.n) made sequence = rw (first_part g.n largest 1 small) at C in rw D.pairs_are (pairs_up I D.come)

-- the lines of a witness
pub witness_verdict : {g : Graph} {f : ℕ} {words : List ℕ} → length words ≡ g.n → Singular modulus g (players_of g.n) f words
    → GraphLines modulus_prime g (players_of g.n) (witness_lines 0 words ++ verdict_line (witness_letter g.n))
witness_verdict {g} {words = words} l s =
    subst (λ k. GraphLines modulus_prime g (players_of g.n) (witness_lines 0 words ++ verdict_line (witness_letter k))) (count_vertices g.n)
    (shows_witness l s)

-- a graph in order, over tables that are long enough
pub record Acceptable (g : Graph) : Type 0 where
  pub in_order : InOrder modulus g
  pub long : GraphFits g

-- opening accepts such a graph, over buffers for the largest graph
pub accepts : {g : Graph} → Acceptable g → opening_ruling modulus g 9216 96 96 9216 ≡ accepted
accepts {g} L =
    let small = L.in_order.size in
    (opening_accepted modulus g 9216 96 96 9216).1 (
      record {
        graph = L.long;
        inverse_fits = square_small g.n small;
        sequence_fits = small;
        witness_fits = small;
        work_fits = square_small g.n small;
      },
      L.in_order,
    )

-- the first line, and then the others
pub graph_lines : {g : Graph} {m mid end : ℕ} {before between after : List ℕ} → Puts 0 (first_line g.n m) before between mid
    → Writes (GraphLines modulus_prime g (players_of g.n)) mid between after end → Writes (AllLines g m) 0 before after end
graph_lines P W = record { text = _; lines = record { rest = W.text; lines = W.lines; all = refl }; puts = puts_then P W.puts }
