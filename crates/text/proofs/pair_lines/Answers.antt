-- `text::pair_lines` meets its contract: the lines of the pairs so far are written, and the other pairs are left. Assumes nothing.
use Rattle.std.proofs.Common.{◌≡◌, ℕ, List, ◌+◌, ◌*◌, ◌≤◌, ◌<◌, ◌++◌, length, get_or, take, drop, sym, ap, ap₂, ◌∙◌, arith, length-append, length-drop, length-take-le, get_or-take, get_or-drop, drop-drop, drop_at}
use Rattle.std.proofs.Math.ListN.{get_or-append}
use Rattle.std.proofs.lemmas.List.{length_push}
use Rattle.matching.specs.Listing.{pair_line}
use Rattle.text.specs.Puts.{puts_nothing, puts_then, puts_length}
use Rattle.text.specs.Lines.{pair_at, pair_length, pairs_none, pairs_more}
use Rattle.text.proofs.pair_lines.Goals as goal

-- the chunk after k pairs of bytes has the line of the pair at k
record Turn (s : List ℕ) (made k : ℕ) (chunk rest : List ℕ) : Type 0 where
  pub below : k < made
  pub line : pair_line (record { smaller = get_or chunk 0 0; larger = get_or chunk 1 0 }) ≡ pair_line (pair_at s k)
  pub short : length (pair_line (pair_at s k)) ≤ 13
  pub left : rest ≡ drop (2 * (k + 1)) (take (2 * made) s)

turn : (s : List ℕ) (made k : ℕ) (chunk rest : List ℕ) → ((i : ℕ) → get_or s i 0 < 256) → 2 * made ≤ length s → length chunk ≡ 2 → drop (2 * k) (take (2 * made) s) ≡ chunk ++ rest → Turn s made k chunk rest
turn s made k chunk rest small h two e =
    let pairs = take (2 * made) s in
    let long : length (drop (2 * k) pairs) ≡ 2 + length rest = ap length e ∙ omega (arith, length-append chunk rest) in
    let below : k < made = omega (arith, length-drop (2 * k) pairs, length-take-le (2 * made) s h) in
    let at : (i : ℕ) → i < 2 → get_or chunk i 0 ≡ get_or s (2 * k + i) 0 = λ i l.
    sym (get_or-append chunk rest 0 i (omega arith)) ∙ ap (λ m. get_or m i 0) (sym e) ∙ get_or-drop (2 * k) pairs i 0 ∙ get_or-take (2 * made) s (2 * k + i) 0 (omega arith) in
    record {
      below = below;
      line =
          ap₂ (λ x y. pair_line (record { smaller = x; larger = y })) (at 0 (omega arith) ∙ ap (λ i. get_or s i 0) (omega arith))
          (at 1 (omega arith) ∙ ap (λ i. get_or s i 0) (omega arith));
      short = pair_length (pair_at s k) (small (k + k)) (small (k + k + 1));
      left = sym (drop_at chunk rest 2 two) ∙ ap (drop 2) (sym e) ∙ drop-drop 2 (2 * k) pairs ∙ ap (λ i. drop i pairs) (omega arith);
    }

pub loop-pair-init : goal.loop-pair-init
loop-pair-init c = record {
  within = omega arith;
  by_two = ap (λ i. i.size) c.into_iter-pair-iterator.ensures.into_iter_gives ∙ c.chunks_exact-pair-items.ensures.size;
  left = ap (λ i. i.rest.now) c.into_iter-pair-iterator.ensures.into_iter_gives ∙ c.chunks_exact-pair-items.ensures.rest;
  bound = omega arith;
  lines = rw (pairs_none c.args.sequence.now) (puts_nothing _ _ (omega (arith, c.requires.1)));
}

pub pair_line-next-requires : goal.pair_line-next-requires
pair_line-next-requires c =
    let inv = c.loop-pair.invariant in
    let k = length c.loop-pair.yielded in
    let steps = c.in-Some.ensures.steps in
    let T = turn c.args.sequence.now c.args.made k c.in-Some.pair.now c.next.new.self.rest.now (λ i. omega (arith, c.type_inv.sequence i)) c.requires.0 (steps.1.1 ∙ inv.by_two) (sym inv.left ∙ steps.1.0) in
    omega (arith, c.requires.1, puts_length inv.lines, T.below, T.short, ap length T.line)

pub loop-pair-preserved : goal.loop-pair-preserved
loop-pair-preserved c =
    let s = c.args.sequence.now in
    let inv = c.loop-pair.invariant in
    let k = length c.loop-pair.yielded in
    let steps = c.in-Some.ensures.steps in
    let T = turn s c.args.made k c.in-Some.pair.now c.next.new.self.rest.now (λ i. omega (arith, c.type_inv.sequence i)) c.requires.0 (steps.1.1 ∙ inv.by_two) (sym inv.left ∙ steps.1.0) in
    let more = length_push c.loop-pair.yielded c.in-Some.pair in
    rw more
    (record {
      within = omega (arith, T.below);
      by_two = steps.0 ∙ inv.by_two;
      left = T.left;
      bound = omega (arith, c.pair_line-next.ensures.behind, T.short, ap length T.line);
      lines = rw (pairs_more s k) (puts_then inv.lines (rw T.line at c.pair_line-next.ensures));
    })

pub returns : goal.returns
returns c =
    let inv = c.loop-pair.invariant in
    let k = length c.loop-pair.yielded in
    let pairs = take (2 * c.args.made) c.args.sequence.now in
    let all : k ≡ c.args.made = omega (arith, c.in-None.ensures.steps.1.0, ap length inv.left, length-drop (2 * k) pairs, length-take-le (2 * c.args.made) c.args.sequence.now c.requires.0) in
    record { lines = rw all at inv.lines; bound = omega (arith, inv.bound) }
