-- `call_list::first_unknown` meets its contract: a chunk of three numbers begins with the call-kind of its call. Assumes nothing.
use Rattle.std.proofs.Common.{◌≡◌, ℕ, ◌+◌, ◌*◌, ◌≤◌, length, Option, None, Some, List, get_or, Bor, arith, rules, tests}
use Rattle.std.specs.Prelude.{IsTrue, MatchOption, IfSome, IsSomeAnd}
use Rattle.std.specs.Option.{option_map}
use Rattle.std.specs.List.{IsSubsliceAt}
use Rattle.std.specs.Iterator.Runs.{Run, IsChunksExactRun, AllItems, AllItemsBelow}
use Rattle.matching.specs.Replay.{CallKind, call_count}
use Rattle.refusals.specs.Meaning.{Finds}
use Rattle.call_list.specs.List.{Unknown}
use Rattle.call_list.proofs.first_unknown.Goals as goal

-- a run over the chunks of three numbers, where Yes holds of a chunk only if its call-kind is unknown, and No only if it is known
module _ {S : Type 0} {steps : S → Option (Bor (List ℕ)) → S → Type 0} (p : Run steps) (list : Bor (List ℕ)) (C : IsChunksExactRun p 3 list.now)
    {Keeps : Type 0} {Yes No : Bor (List ℕ) → Type 0} (keeps : Keeps)
    (yes : (x : Bor (List ℕ)) → Yes x → ¬ CallKind (get_or x.now 0 0)) (no : (x : Bor (List ℕ)) → No x → CallKind (get_or x.now 0 0)) where
  -- chunk k begins with number 3 k
  begins : (k : ℕ) (o : Option (Bor (List ℕ))) → IfSome o (λ x. (length x.now ≡ 3) × (k * 3 + 3 ≤ length list.now) × IsSubsliceAt 3 list.now (k * 3) x.now) → (P : Bor (List ℕ) → Type 0) → IsSomeAnd o P
      → (x : Bor (List ℕ)) × (P x × (get_or x.now 0 0 ≡ get_or list.now (3 * k) 0))
  begins k None h P m = absurd m
  begins k (Some x) h P m = let e : k * 3 + 0 ≡ 3 * k = omega arith in (x, (m, rw e at (h.2.2 0 0 (omega arith))))

  known : (k : ℕ) → IsSomeAnd (p.at k) No → ¬ Unknown list.now k
  known k m u = let b = begins k (p.at k) (C.2 k) No m in u (rw b.1.1 at (no b.0 b.1.0))

  unknown : (k : ℕ) → IsSomeAnd (p.at k) Yes → Unknown list.now k
  unknown k m q = let b = begins k (p.at k) (C.2 k) Yes m in yes b.0 b.1.0 (rw (← b.1.1) at q)

  -- an item that was given is there
  there : (o : Option (Bor (List ℕ))) {v : Bor (List ℕ)} (P : Bor (List ℕ) → Type 0) → option_map (λ y. y) o ≡ Some v → IfSome o P → IsSomeAnd o P
  there None P e h = absurd (cc)
  there (Some x) P e h = h

  -- the number of chunks before the first with Yes
  finds : (r : Option ℕ) → MatchOption r (IsTrue p.whole × (Keeps → AllItems p No)) (λ i. (p.len ≡ i + 1) × (Keeps → IsSomeAnd (p.at i) Yes × AllItemsBelow p i No))
      → Finds (call_count list.now) (Unknown list.now) r
  finds None (w, all) = λ k l. known k (there (p.at k) No (p.reads k list (omega (arith, C.1 w))) (all keeps k))
  finds (Some i) (e, first) = record {
    below = omega (arith, C.0);
    holds = unknown i (first keeps).0;
    none_before = λ k l. known k ((first keeps).1 k l);
  }

pub returns : goal.returns
returns c =
    let run = c.position.ensures.runs in
    let chunks = c.chunks_exact.ensures in
    let whole = rw (run.1, chunks.size, chunks.rest) at (chunks.runs run.0 run.0.seen) in
    finds run.0 c.args.list (whole (omega arith)) (λ a r f h. search (rules, tests)) (λ x h. search (rules, tests)) (λ x h. search (rules, tests)) c.position.result run.2
