-- Each session call, and each list of them, has exactly one outcome; and demand 2's "exactly when" for a pick. Assumes nothing.
use Rattle.std.proofs.Math.Path.{◌≡◌, refl}
use Rattle.std.proofs.Common.{sym, ap, ap₂, ◌∙◌, arith}
use Rattle.std.specs.Prelude.{List, [], ◌∷◌, ◌++◌, ℕ, length}
use Rattle.modular.specs.Prime.{OddPrime}
use Rattle.matching.specs.Decision.{Ruling, accepted, refused}
use Rattle.matching.specs.Pairs.{pair_of}
use Rattle.matching.specs.Session.{State, in_play, graph_of, pairs_of, with_pairs}
use Rattle.matching.specs.Causes.{session_ruling}
use Rattle.matching.specs.Model.{Call, pick, Answer, done, denied, Step, Nonsingular, pick_ruling, Allowed, append, step}
use Rattle.matching.specs.Calls.{Returned, state_after, model_step, Handles, unsound, refuses, carries, PickedExactly, Runs, none, more}
use Rattle.laws.specs.ModelLaws.{step_nonsingular, allowed_of_accepted, accepted_of_allowed, unlike}
use Rattle.laws.specs.Sound.{session_accepted}
use Rattle.laws.specs.OpeningOutcome.{inverse_table_of, inverse_table_unique}

module _ {p : ℕ} (P : OddPrime p) where
  pub handles_some : (s : State) (c : Call) → (a : Answer) × (t : State) × Handles P s c a t
  handles_some s c = go (session_ruling p s) refl (model_step P s c) refl
    where
      go : (v : Ruling) → session_ruling p s ≡ v → (t : Step) → model_step P s c ≡ t → (a : Answer) × (t : State) × Handles P s c a t
      go (refused r) e _ _ = (denied r, s, unsound r e)
      go accepted e t q = by_answer t.answer refl
        where
          by_answer : (a : Answer) → t.answer ≡ a → (a : Answer) × (t : State) × Handles P s c a t
          by_answer (denied r) k = (denied r, s, refuses r e (ap (λ u. u.answer) q ∙ k))
          by_answer (done x) k =
              let I = ((session_accepted p s).0 e).1 in
              let J : Nonsingular P (graph_of s) (in_play s) t.pairs =
              rw q at (step_nonsingular P (graph_of s) (in_play s) (pairs_of s) c (_, I.as_defined.is_inverse)) in
              let h = inverse_table_of P (graph_of s) (in_play s) J.1 in
              (done x, with_pairs (graph_of s) t.pairs h.0 s, carries x t.pairs h.0 e (q ∙ rw (← k)) h.1 h.2)

  pub handles_unique : {s : State} {c : Call} {a a' : Answer} {t t' : State} → Handles P s c a t → Handles P s c a' t' → (a ≡ a') × (t ≡ t')
  handles_unique (unsound r e) (unsound r' e') = (cc, refl)
  handles_unique (unsound r e) (refuses r' e' k') = absurd (let z : ◌≡◌ {A = ℕ} 0 1 = cc in omega arith)
  handles_unique (unsound r e) (carries y ps h e' k' l' i') = absurd (let z : ◌≡◌ {A = ℕ} 0 1 = cc in omega arith)
  handles_unique (refuses r e k) (unsound r' e') = absurd (let z : ◌≡◌ {A = ℕ} 0 1 = cc in omega arith)
  handles_unique (refuses r e k) (refuses r' e' k') = (cc, refl)
  handles_unique (refuses r e k) (carries y ps h e' k' l' i') =
      absurd (let w = ap (λ u. u.answer) k' in let z : ◌≡◌ {A = ℕ} 0 1 = cc in omega arith)
  handles_unique (carries y ps h e k l i) (unsound r e') = absurd (let z : ◌≡◌ {A = ℕ} 0 1 = cc in omega arith)
  handles_unique (carries y ps h e k l i) (refuses r e' k') =
      absurd (let w = ap (λ u. u.answer) k in let z : ◌≡◌ {A = ℕ} 0 1 = cc in omega arith)
  handles_unique {s} (carries y ps h e k l i) (carries y' ps' h' e' k' l' i') =
      let a : done y ≡ done y' = ap (λ u. u.answer) (sym k ∙ k') in
      let b : ps ≡ ps' = ap (λ u. u.pairs) (sym k ∙ k') in
      let w : h ≡ h' = inverse_table_unique P (graph_of s) (in_play s) l l' i (rw (← b) at i') in
      (a, ap₂ (λ qs words. with_pairs (graph_of s) qs words s) b w)

  -- a call that is refused hands back the state as it came
  pub refused_keeps : {s t : State} {c : Call} {a : Answer} → Handles P s c a t → {r : _} → a ≡ denied r → t ≡ s
  refused_keeps (unsound _ _) _ = refl
  refused_keeps (refuses _ _ _) _ = refl
  refused_keeps (carries e _ _ _ _ _ _) {r} q = absurd (unlike {q = e} {r = r} refl q)

  pub runs_some : (s : State) (calls : List Call) → (returned : List Returned) × Runs P s calls returned
  runs_some s [] = ([], none)
  runs_some s (c ∷ calls) =
      let h = handles_some s c in
      let r = runs_some h.1 calls in
      (record { answer = h.0; state = h.1 } ∷ r.0, more h.2 r.1)

  pub runs_unique : {s : State} {calls : List Call} {a b : List Returned} → Runs P s calls a → Runs P s calls b → a ≡ b
  runs_unique none none = refl
  runs_unique (more {calls = calls} {r = x} {later = l} h rest) (more {r = y} {later = m} h' rest') =
      let u = handles_unique h h' in
      let q : x ≡ y = ap₂ (λ a s. record { answer = a; state = s }) u.0 u.1 in
      ap₂ (λ r later. r ∷ later) q (runs_unique rest (rw (← u.1) at rest'))

  -- one call more at the end
  pub runs_more : {s t : State} {calls : List Call} {returned : List Returned} {c : Call} {a : Answer} → Runs P s calls returned
      → Handles P (state_after s returned (length returned)) c a t → Runs P s (calls ++ c ∷ []) (returned ++ record { answer = a; state = t } ∷ [])
  unfolding state_after
  runs_more none h = more h none
  runs_more (more k rest) h = more k (runs_more rest h)

  -- demand 2, second half
  pub picked_exactly : {s t : State} {a b : ℕ} {answer : Answer} → Handles P s (pick a b) answer t → PickedExactly P s a b answer
  unfolding step
  picked_exactly (unsound r e) ok = absurd (let z : ◌≡◌ {A = ℕ} 0 1 = cc in omega arith)
  picked_exactly {s} {a = a} {b = b} (refuses r e k) ok = (λ f. absurd (unlike {q = f.0} {r = r} f.1 refl), λ h. absurd (go (pick_ruling P (graph_of s) (in_play s) (pairs_of s) a b) refl k h))
    where
      go : (v : Ruling) → pick_ruling P (graph_of s) (in_play s) (pairs_of s) a b ≡ v → (append (pairs_of s) (pair_of a b) v).answer ≡ denied r
          → Allowed P (graph_of s) (in_play s) (pairs_of s) a b → ⊥
      go accepted q k h = unlike {q = pair_of a b} {r = r} refl k
      go (refused w) q k h = rw q at (accepted_of_allowed P (graph_of s) (in_play s) (pairs_of s) a b h)
  picked_exactly {s} {a = a} {b = b} (carries x pairs words e k l i) ok = (λ _. go (pick_ruling P (graph_of s) (in_play s) (pairs_of s) a b) refl k, λ _. (x, refl))
    where
      go : (v : Ruling) → pick_ruling P (graph_of s) (in_play s) (pairs_of s) a b ≡ v → append (pairs_of s) (pair_of a b) v ≡ record { answer = done x; pairs = pairs }
          → Allowed P (graph_of s) (in_play s) (pairs_of s) a b
      go accepted q k = allowed_of_accepted P (graph_of s) (in_play s) (pairs_of s) a b (rw q tt)
      go (refused w) q k = absurd (unlike {q = x} {r = w} (ap (λ u. u.answer) k) refl)
