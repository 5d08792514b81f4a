-- `sequence::take_pairs` meets its contract. The invariant of its loop: the first k pairs, for the k turns so far, are in order, the marks are
-- those that they leave, and the bytes of the other pairs are still to come. Assumes nothing.
use Rattle.std.proofs.Common.{◌≡◌, ◌+◌, ◌≤◌, ◌<◌, ℕ, List, ◌++◌, length, take, drop, get_or, refl, sym, ap, ◌∙◌, arith, true≢false, length-append, length-drop, get_or-drop, get_or-take}
use Rattle.std.proofs.Math.ListN.{get_or-append}
use Rattle.std.proofs.lemmas.List.{length-take, length_push, drop-drop, drop_at}
use Rattle.sequence.specs.Formed.{tells_true, tells_false, left_start, upto_start, upto_more, left_more, upto_fits}
use Rattle.sequence.proofs.take_pairs.Goals as goal

-- x is the pair after the first k of the first m bytes of s, and t is what follows it
record Next (s : List ℕ) (m k : ℕ) (x t : List ℕ) : Type 0 where
  room : k + k + 2 ≤ m
  first : get_or x 0 0 ≡ get_or s (k + k) 0
  second : get_or x 1 0 ≡ get_or s (k + k + 1) 0
  rest : t ≡ drop (k + 1 + (k + 1)) (take m s)

next_pair : {s x t : List ℕ} {m k : ℕ} → drop (k + k) (take m s) ≡ x ++ t → length x ≡ 2 → Next s m k x t
next_pair {s} {x} {t} {m} {k} e two = record {
  room = room;
  first = byte 0 (k + k) (omega arith) (omega arith);
  second = byte 1 (k + k + 1) (omega arith) (omega arith);
  rest =
      let q : k + k + 2 ≡ k + 1 + (k + 1) = omega arith in
      sym (drop_at x t 2 two) ∙ ap (drop 2) (sym e) ∙ drop-drop 2 (k + k) (take m s) ∙ ap (λ i. drop i (take m s)) q;
}
  where
    room : k + k + 2 ≤ m
    room = omega (arith, ap length e, length-drop (k + k) (take m s), length-take m s, length-append x t)

    byte : (i j : ℕ) → i < 2 → k + k + i ≡ j → get_or x i 0 ≡ get_or s j 0
    byte i j l q =
        sym (get_or-append x t 0 i (omega arith))
        ∙ ap (λ y. get_or y i 0) (sym e)
        ∙ get_or-drop (k + k) (take m s) i 0
        ∙ get_or-take m s (k + k + i) 0 (let r = room in omega arith)
        ∙ ap (λ y. get_or s y 0) q

pub loop-pair-init : goal.loop-pair-init
loop-pair-init c = rw c.into_iter-pair-iterator.ensures.into_iter_gives (record {
  size = c.chunks_exact-pair-items.ensures.size;
  rest = c.chunks_exact-pair-items.ensures.rest;
  within = omega arith;
  in_order = upto_start _ _ _ _;
  left = left_start _ _ _ c.requires.3;
})

pub returns-then-not-fits : goal.returns-then-not-fits
returns-then-not-fits c =
    let I = c.loop-pair.invariant in
    let N : Next c.args.sequence.now (c.args.made + c.args.made) (length c.loop-pair.yielded) c.in-Some.pair.now c.next.new.self.rest.now =
    next_pair (sym I.rest ∙ c.in-Some.ensures.steps.1.0) (c.in-Some.ensures.steps.1.1 ∙ I.size)
    in
    let F = rw (N.first, N.second) at c.fits.ensures in
    record {
      in_order = tells_false (λ U. F.when_false c.if-not-fits.true (upto_fits I.left (omega (arith, N.room)) U));
      left = λ e. absurd (true≢false (sym e));
    }

pub loop-pair-preserved : goal.loop-pair-preserved
loop-pair-preserved c =
    let I = c.loop-pair.invariant in
    let N : Next c.args.sequence.now (c.args.made + c.args.made) (length c.loop-pair.yielded) c.in-Some.pair.now c.next.new.self.rest.now =
    next_pair (sym I.rest ∙ c.in-Some.ensures.steps.1.0) (c.in-Some.ensures.steps.1.1 ∙ I.size)
    in
    let F = (rw (N.first, N.second) at c.fits.ensures).when_true c.if-not-fits.false in
    rw (length_push c.loop-pair.yielded c.in-Some.pair) (record {
      size = c.in-Some.ensures.steps.0 ∙ I.size;
      rest = N.rest;
      within = omega (arith, N.room);
      in_order = upto_more I.left I.in_order F;
      left = left_more I.left F _ (rw (N.first, N.second) refl);
    })

pub returns : goal.returns
returns c =
    let I = c.loop-pair.invariant in
    let m = c.args.made + c.args.made in
    let k = length c.loop-pair.yielded in
    let s = c.args.sequence.now in
    let e : k ≡ c.args.made =
    let r = c.in-None.ensures.steps.1.0 in omega (arith, ap length I.rest, I.size, I.within, length-drop (k + k) (take m s), length-take m s) in
    rw (← e) (record { in_order = tells_true I.in_order; left = λ _. I.left })
