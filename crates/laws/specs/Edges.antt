-- The edges that a reader has found, each once: at most 4,560 of them, and a table of 0 and 1, equal to its mirror. Assumes nothing.
use Rattle.std.specs.Prelude.{◌≡◌, refl, ◌≢◌, List, [], ◌∷◌, ℕ, zero, suc, ◌+◌, ◌≤◌, ◌<◌, length}
use Rattle.std.proofs.Common.{sym, ap, arith}
use Rattle.std.proofs.Math.Decide.{ℕ_discrete, dec_lt}
use Rattle.lists.specs.Choose.{choose, choose_yes, choose_no}
use Rattle.matching.specs.Graph.{largest}
use Rattle.matching.specs.Pairs.{Pair, pair_of}
use Rattle.matching.specs.Model.{Named}
use Rattle.matching.specs.Filling.{Same, same?, among}
use Rattle.laws.specs.ModelLaws.{pair_of_smaller, pair_of_larger}

-- every edge has its smaller vertex first, and both below n
abbrev pub EdgesFit : ℕ → List Pair → Type 0
EdgesFit n [] = Unit {0}
EdgesFit n (e ∷ edges) = (e.smaller < e.larger) × (e.larger < n) × EdgesFit n edges

-- no edge stands twice
abbrev pub Different : List Pair → Type 0
Different [] = Unit {0}
Different (e ∷ edges) = (among e edges ≡ 0) × Different edges

pub fit_more : (n a b : ℕ) (edges : List Pair) → Named n a b → EdgesFit n edges → EdgesFit n (pair_of a b ∷ edges)
fit_more n a b edges h F = go (dec_lt a b) (dec_lt b a)
  where
    go : Dec (a < b) → Dec (b < a) → EdgesFit n (pair_of a b ∷ edges)
    go (yes l) _ = rw (pair_of_smaller a b l) (l, h.1, F)
    go (no _) (yes l) = rw (pair_of_larger a b l) (l, h.0, F)
    go (no c) (no d) = absurd (h.2 (omega arith))

-- an edge stands in the table as 1 or 0, and as 0 on the diagonal
pub among_small : (e : Pair) (edges : List Pair) → among e edges ≤ 1
unfolding among
among_small e [] = omega arith
among_small e (f ∷ edges) = go (same? e f) (among_small e edges)
  where
    go : (d : Dec (Same e f)) → among e edges ≤ 1 → choose d 1 (among e edges) ≤ 1
    go (yes _) _ = omega arith
    go (no _) h = h

pub among_ordered : (n : ℕ) (e : Pair) (edges : List Pair) → e.smaller ≡ e.larger → EdgesFit n edges → among e edges ≡ 0
unfolding among
among_ordered n e [] q h = refl
among_ordered n e (f ∷ edges) q h = go (same? e f) (among_ordered n e edges q h.2)
  where
    go : (d : Dec (Same e f)) → among e edges ≡ 0 → choose d 1 (among e edges) ≡ 0
    go (yes s) _ = absurd (omega (arith, s.0, s.1, h.0))
    go (no _) k = k

pub pair_of_same : (a : ℕ) → (pair_of a a).smaller ≡ (pair_of a a).larger
unfolding pair_of
pair_of_same a = refl

-- the sum of the first m values
unfoldable total : ℕ → (ℕ → ℕ) → ℕ
total zero f = 0
total (suc m) f = total m f + f m

total_most : (m : ℕ) (f : ℕ → ℕ) → ((i : ℕ) → f i ≤ 1) → total m f ≤ m
unfolding total
total_most zero f h = omega arith
total_most (suc m) f h = omega (arith, total_most m f h, h m)

total_same : (m : ℕ) (f g : ℕ → ℕ) → ((i : ℕ) → i < m → g i ≡ f i) → total m g ≡ total m f
unfolding total
total_same zero f g h = refl
total_same (suc m) f g h = omega (arith, total_same m f g (λ i l. h i (omega arith)), h m (omega arith))

total_none : (m : ℕ) (f : ℕ → ℕ) → ((i : ℕ) → f i ≡ 0) → total m f ≡ 0
unfolding total
total_none zero f h = refl
total_none (suc m) f h = omega (arith, total_none m f h, h m)

-- if one value turns from 0 to 1, the sum grows by 1
total_more : (m a : ℕ) (f g : ℕ → ℕ) → a < m → f a ≡ 0 → g a ≡ 1 → ((i : ℕ) → i ≢ a → g i ≡ f i) → total m g ≡ total m f + 1
unfolding total
total_more zero a f g l z o h = absurd (omega arith)
total_more (suc m) a f g l z o h = go (ℕ_discrete a m) (λ k. total_more m a f g k z o h)
  where
    go : Dec (a ≡ m) → (a < m → total m g ≡ total m f + 1) → total m g + g m ≡ total m f + f m + 1
    go (yes e) _ =
        let z' : f m ≡ 0 = rw e at z in
        let o' : g m ≡ 1 = rw e at o in
        omega (arith, total_same m f g (λ i k. h i (λ q. omega arith)))
    go (no d) later = omega (arith, later (omega arith), h m (λ q. d (sym q)))

-- the number of pairs below j: pairs are numbered by their larger vertex, then by their smaller one
unfoldable below : ℕ → ℕ
below zero = 0
below (suc j) = below j + j

below_mono : (i j : ℕ) → i ≤ j → below i ≤ below j
unfolding below
below_mono i zero l = let e : i ≡ 0 = omega arith in rw e (omega arith)
below_mono i (suc j) l = go (ℕ_discrete i (suc j)) (below_mono i j)
  where
    go : Dec (i ≡ suc j) → (i ≤ j → below i ≤ below j) → below i ≤ below j + j
    go (yes e) _ = rw e (omega arith)
    go (no d) later = omega (arith, later (omega arith))

below_all : below largest ≡ 4560
unfolding below
below_all = refl

abbrev coded : Pair → ℕ
coded e = below e.larger + e.smaller

-- a pair comes before every pair whose larger vertex is larger
coded_before : (e : Pair) (j : ℕ) → e.smaller < e.larger → e.larger < j → coded e < below j
unfolding below
coded_before e j l h = omega (arith, below_mono (suc e.larger) j (omega arith))

coded_same : (e f : Pair) → e.smaller < e.larger → f.smaller < f.larger → coded e ≡ coded f → Same e f
coded_same e f l m q = go (dec_lt e.larger f.larger) (dec_lt f.larger e.larger)
  where
    go : Dec (e.larger < f.larger) → Dec (f.larger < e.larger) → Same e f
    go (yes h) _ = absurd (omega (arith, coded_before e f.larger l h))
    go (no _) (yes h) = absurd (omega (arith, coded_before f e.larger m h))
    go (no c) (no d) = let s : e.larger ≡ f.larger = omega arith in (omega (arith, ap below s), s)

-- 1 if an edge has this number, else 0
unfoldable listed : List Pair → ℕ → ℕ
unfolding ℕ_discrete
listed [] x = 0
listed (e ∷ edges) x = choose (ℕ_discrete x (coded e)) 1 (listed edges x)

listed_small : (edges : List Pair) (x : ℕ) → listed edges x ≤ 1
unfolding listed
listed_small [] x = omega arith
listed_small (e ∷ edges) x = go (ℕ_discrete x (coded e)) (listed_small edges x)
  where
    go : (d : Dec (x ≡ coded e)) → listed edges x ≤ 1 → choose d 1 (listed edges x) ≤ 1
    go (yes _) _ = omega arith
    go (no _) h = h

listed_new : (n : ℕ) (e : Pair) (edges : List Pair) → e.smaller < e.larger → EdgesFit n edges → among e edges ≡ 0 → listed edges (coded e) ≡ 0
unfolding listed among
listed_new n e [] l F z = refl
listed_new n e (f ∷ edges) l F z = go (same? e f) (ℕ_discrete (coded e) (coded f)) z (listed_new n e edges l F.2)
  where
    go : (c : Dec (Same e f)) (d : Dec (coded e ≡ coded f)) → choose c 1 (among e edges) ≡ 0 → (among e edges ≡ 0 → listed edges (coded e) ≡ 0)
        → choose d 1 (listed edges (coded e)) ≡ 0
    go (yes _) _ q _ = absurd (omega arith)
    go (no s) (yes q) _ _ = absurd (s (coded_same e f l F.0 q))
    go (no _) (no _) q later = later q

listed_more : (n : ℕ) (e : Pair) (edges : List Pair) → e.smaller < e.larger → e.larger < n → EdgesFit n edges → among e edges ≡ 0
    → total (below n) (listed (e ∷ edges)) ≡ total (below n) (listed edges) + 1
unfolding listed
listed_more n e edges l h F z =
    total_more (below n) (coded e) (listed edges) (listed (e ∷ edges)) (coded_before e n l h) (listed_new n e edges l F z) (choose_yes (ℕ_discrete (coded e) (coded e)) 1 _ refl)
    (λ i d. choose_no (ℕ_discrete i (coded e)) 1 _ d)

-- each edge has its own number
own : (n : ℕ) (edges : List Pair) → EdgesFit n edges → Different edges → total (below n) (listed edges) ≡ length edges
unfolding listed
own n [] F D = total_none (below n) (listed []) (λ i. refl)
own n (e ∷ edges) F D = omega (arith, listed_more n e edges F.0 F.1 F.2 D.0, own n edges F.2 D.1)

pub few_edges : (n : ℕ) (edges : List Pair) → n ≤ largest → EdgesFit n edges → Different edges → length edges ≤ 4560
few_edges n edges l F D =
    omega (arith, total_most (below n) (listed edges) (listed_small edges), own n edges F D, below_mono n largest l, below_all)
