-- Laws of words as bytes, low byte first, for any width; those of two bytes are instances. Assumes nothing.
use Rattle.std.specs.Prelude.{◌≡◌, get_or, drop}
use Rattle.std.proofs.Math.Path.{refl, sym, ap, ap₂}
use Rattle.std.proofs.Common.{◌∙◌, add-zero, mul-zero, pow-suc, mul-le-mul_left, take-append-drop, length-take-le, take-add, drop_at, get_or-append-add, get_or-drop, ext_get_or}
use mathlib.Core.List.{List, [], ◌∷◌, ◌++◌, append_assoc}
use Prim.Native.Nat.{ℕ, zero, suc, ◌+◌, ◌*◌, ◌/◌, ◌%◌, ◌^◌, ◌≤◌, ◌<◌}
use Rattle.std.proofs.Math.Nat.{mul-suc, mul-div-le}
use native.Mathlib.Omega.{arith}
use Rattle.std.proofs.Math.Decide.{dec_lt}
use Rattle.std.proofs.Math.ListN.{length, take, length-append, length-drop, get_or-append}
use Rattle.std.proofs.Math.Seq.{take-length}
use Rattle.lists.specs.Values.{list_of, length_list_of, getD_list_of, list_of_same, list_of_front}
use Rattle.lists.specs.Onto.{onto, onto_length, onto_front, onto_front_same, onto_behind}
use Rattle.matching.specs.Host.{word, words, Bytes, low_bytes, bytes_of}

-- a word is the same wherever its bytes stand
word_same : (w : ℕ) (l m : List ℕ) (a b : ℕ) → ((k : ℕ) → k < w → get_or l (a + k) 0 ≡ get_or m (b + k) 0) → word w l a ≡ word w m b
unfolding word
word_same zero l m a b h = refl
word_same (suc w) l m a b h =
    ap₂ (λ x y. x + 256 * y) (rw (add-zero a, add-zero b) at (h 0 (omega arith)))
    (word_same w l m (a + 1) (b + 1) (λ k q. rw (shifted a k, shifted b k) (h (suc k) (omega arith))))
  where
    shifted : (a k : ℕ) → a + 1 + k ≡ a + suc k
    shifted a k = omega arith

-- a word behind the first k bytes
word_drop : (w k : ℕ) (l : List ℕ) (x : ℕ) → word w (drop k l) x ≡ word w l (k + x)
word_drop w k l x = word_same w (drop k l) l x (k + x) (λ j q. get_or-drop k l (x + j) 0 ∙ ap (λ i. get_or l i 0) (omega arith))

bytes_drop : (k : ℕ) (l : List ℕ) → Bytes l → Bytes (drop k l)
bytes_drop k l B x = rw (get_or-drop k l x 0) (B (k + x))

bytes_both : (a b : List ℕ) → Bytes a → Bytes b → Bytes (a ++ b)
bytes_both [] b A B x = B x
bytes_both (y ∷ a) b A B zero = A 0
bytes_both (y ∷ a) b A B (suc x) = bytes_both a b (λ z. A (suc z)) B x

low_are : (w x : ℕ) → Bytes (low_bytes w x)
unfolding low_bytes
low_are zero x k = omega arith
low_are (suc w) x zero = omega arith
low_are (suc w) x (suc k) = low_are w (x / 256) k

low_length : (w x : ℕ) → length (low_bytes w x) ≡ w
unfolding low_bytes
low_length zero x = refl
low_length (suc w) x = ap suc (low_length w (x / 256))

-- a number that fits w bytes is the word of its low bytes
word_low : (w x : ℕ) → x < 256 ^ w → word w (low_bytes w x) 0 ≡ x
unfolding word low_bytes
word_low zero x h = omega arith
word_low (suc w) x h =
    omega
    (arith, word_drop w 1 (x % 256 ∷ low_bytes w (x / 256)) 0, word_low w (x / 256) (omega (arith, pow-suc 256 w)))

-- the low bytes of a word are the bytes that it was made of
low_word : (w : ℕ) (l : List ℕ) → Bytes l → w ≤ length l → low_bytes w (word w l 0) ≡ take w l
unfolding word low_bytes
low_word zero l B h = refl
low_word (suc w) [] B h = absurd (omega arith)
low_word (suc w) (a ∷ l) B h =
    let y = word w l 0 in
    let e : word w (a ∷ l) 1 ≡ y = sym (word_drop w 1 (a ∷ l) 0) in
    let low : (a + 256 * y) % 256 ≡ a = omega (arith, B 0) in
    let high : (a + 256 * y) / 256 ≡ y = omega (arith, B 0) in
    rw (e, low, high) (ap (λ r. a ∷ r) (low_word w l (λ x. B (suc x)) (omega arith)))

module _ (w : ℕ) where
  -- the number of words
  pub words_length : (l : List ℕ) → length (words w l) ≡ length l / w
  unfolding words
  words_length l = length_list_of _ _

  words_within : (l : List ℕ) (k : ℕ) → k ≤ length (words w l) → w * k ≤ length l
  words_within l k h = omega (arith, mul-le-mul_left w (rw words_length at h), mul-div-le (length l) w)

  -- the word at index i, and the first k words
  pub words_at : (l : List ℕ) (i : ℕ) → i < length (words w l) → get_or (words w l) i 0 ≡ word w l (w * i)
  unfolding words
  words_at l i h = getD_list_of _ _ i (rw words_length at h)

  words_front : (l : List ℕ) (k : ℕ) → k ≤ length (words w l) → take k (words w l) ≡ list_of k (λ i. word w l (w * i))
  words_front l k h = sym (list_of_front k (words w l) h) ∙ list_of_same k _ _ (λ i q. words_at l i (omega arith))

  -- the number of bytes, and byte k of the word at index i
  pub bytes_length : (l : List ℕ) → length (bytes_of w l) ≡ w * length l
  unfolding bytes_of
  bytes_length [] = sym (mul-zero w)
  bytes_length (x ∷ l) =
      omega (arith, length-append (low_bytes w x) (bytes_of w l), low_length w x, bytes_length l, mul-suc w (length l))

  pub bytes_at : (l : List ℕ) (i k : ℕ) → i < length l → k < w → get_or (bytes_of w l) (w * i + k) 0 ≡ get_or (low_bytes w (get_or l i 0)) k 0
  unfolding bytes_of
  bytes_at [] i k h q = absurd (omega arith)
  bytes_at (x ∷ l) zero k h q =
      let e : w * 0 + k ≡ k = omega arith in rw e (get_or-append (low_bytes w x) (bytes_of w l) 0 k (omega (arith, low_length w x)))
  bytes_at (x ∷ l) (suc i) k h q =
      let e : w * suc i + k ≡ length (low_bytes w x) + (w * i + k) = omega (arith, low_length w x, mul-suc w i) in
      rw e (get_or-append-add (low_bytes w x) (bytes_of w l) (w * i + k) 0 ∙ bytes_at l i k (omega arith) q)

  bytes_append : (a b : List ℕ) → bytes_of w (a ++ b) ≡ bytes_of w a ++ bytes_of w b
  unfolding bytes_of
  bytes_append [] b = refl
  bytes_append (x ∷ a) b = ap (λ r. low_bytes w x ++ r) (bytes_append a b) ∙ sym (append_assoc (low_bytes w x) (bytes_of w a) (bytes_of w b))

  -- the bytes of the first k words of a byte slice are its first bytes
  own_bytes : (k : ℕ) (l : List ℕ) → Bytes l → w * k ≤ length l → bytes_of w (list_of k (λ i. word w l (w * i))) ≡ take (w * k) l
  unfolding bytes_of list_of
  own_bytes zero l B h = rw (mul-zero w)
  own_bytes (suc k) l B h =
      let more : w * suc k ≡ w + w * k = omega (arith, mul-suc w k) in
      let first : low_bytes w (word w l (w * 0)) ≡ take w l = rw (mul-zero w) (low_word w l B (omega arith)) in
      let later = list_of_same k (λ i. word w l (w * suc i)) (λ i. word w (drop w l) (w * i)) (λ i _. ap (word w l) (omega (arith, mul-suc w i)) ∙ sym (word_drop w w l (w * i))) in
      ap₂ ◌++◌ first (ap (bytes_of w) later ∙ own_bytes k (drop w l) (bytes_drop w l B) (omega (arith, length-drop w l)))
      ∙ sym (take-add w (w * k) l)
      ∙ ap (λ n. take n l) (sym more)

  -- the words of a byte slice, the first k or all of them, stored over it again leave it as it was
  pub own_front : (k : ℕ) (l : List ℕ) → Bytes l → k ≤ length (words w l) → onto (bytes_of w (take k (words w l))) l ≡ l
  own_front k l B h =
      let q = words_within l k h in
      rw (words_front l k h, own_bytes k l B q) (onto_front_same (w * k) l q)

  pub own_words : (l : List ℕ) → Bytes l → onto (bytes_of w (words w l)) l ≡ l
  own_words l B = rw take-length at (own_front (length (words w l)) l B (omega arith))

  -- words written over those of a byte slice are bytes written over the slice
  pub stored_words : (new l : List ℕ) → Bytes l → length new ≤ length (words w l) → onto (bytes_of w (onto new (words w l))) l ≡ onto (bytes_of w new) l
  stored_words new l B h =
      let W = words w l in
      let k = length new in
      let front = bytes_of w (take k W) in
      let behind = bytes_of w (drop k W) in
      let rest = drop (length (bytes_of w W)) l in
      let as_long : length (bytes_of w (onto new W)) ≡ length (bytes_of w W) = bytes_length (onto new W) ∙ ap (λ n. w * n) (onto_length new W h) ∙ sym (bytes_length W) in
      let fronts : length front ≡ length (bytes_of w new) = bytes_length (take k W) ∙ ap (λ n. w * n) (length-take-le k W h) ∙ sym (bytes_length new) in
      let whole : front ++ (behind ++ rest) ≡ l =
      sym (append_assoc front behind rest) ∙ ap (λ x. x ++ rest) (sym (bytes_append (take k W) (drop k W)) ∙ ap (bytes_of w) (take-append-drop k W)) ∙ own_words l B in
      ap₂ (λ x n. x ++ drop n l) (bytes_append new (drop k W)) as_long
      ∙ append_assoc (bytes_of w new) behind rest
      ∙ ap (λ r. bytes_of w new ++ r) (sym (drop_at front (behind ++ rest) (length (bytes_of w new)) fronts) ∙ ap (drop (length (bytes_of w new))) whole)

  -- the first k words, new ones over others, are stored as if they stood over the slice's own words
  pub stored_front : (new old l : List ℕ) (k : ℕ) → Bytes l → length new ≡ k → k ≤ length (words w l)
      → onto (bytes_of w (take k (onto new old))) l ≡ onto (bytes_of w (onto new (words w l))) l
  stored_front new old l k B e h =
      rw (onto_front new old k e) (sym (stored_words new l B (omega arith)))

  -- words stored over bytes are read back
  back : (new l : List ℕ) → length new ≤ length (words w l) → ((x : ℕ) → x < length new → get_or new x 0 < 256 ^ w)
      → words w (onto (bytes_of w new) l) ≡ onto new (words w l)
  back new l h b = ext_get_or 0 (words w m) (onto new (words w l)) same_length (λ i q. words_at m i q ∙ go i q (dec_lt i (length new)))
    where
      m : List ℕ
      m = onto (bytes_of w new) l

      same_length : length (words w m) ≡ length (onto new (words w l))
      same_length =
          words_length m
          ∙ ap (λ n. n / w) (onto_length (bytes_of w new) l (omega (arith, bytes_length new, words_within l (length new) h)))
          ∙ sym (words_length l)
          ∙ sym (onto_length new (words w l) h)

      go : (i : ℕ) → i < length (words w m) → Dec (i < length new) → word w m (w * i) ≡ get_or (onto new (words w l)) i 0
      go i q (yes p) =
          word_same w m (low_bytes w (get_or new i 0)) (w * i) 0
          (λ k r.
          get_or-append (bytes_of w new) _ 0 (w * i + k) (omega (arith, bytes_length new, mul-le-mul_left w p, mul-suc w i))
          ∙ bytes_at new i k p r
          ∙ ap (λ x. get_or (low_bytes w (get_or new i 0)) x 0) (omega arith))
          ∙ word_low w (get_or new i 0) (b i p)
          ∙ sym (get_or-append new _ 0 i p)
      go i q (no p) =
          let late : length new ≤ i = omega arith in
          word_same w m l (w * i) (w * i) (λ k r. onto_behind (bytes_of w new) l (w * i + k) (omega (arith, bytes_length new, mul-le-mul_left w late)))
          ∙ sym (words_at l i (omega (arith, same_length, onto_length new (words w l) h)))
          ∙ sym (onto_behind new (words w l) i late)

  -- and so are words that were written over the words of these bytes
  pub read_words : (new l : List ℕ) → Bytes l → length new ≤ length (words w l) → ((x : ℕ) → x < length new → get_or new x 0 < 256 ^ w)
      → words w (onto (bytes_of w (onto new (words w l))) l) ≡ onto new (words w l)
  read_words new l B h b = ap (words w) (stored_words new l B h) ∙ back new l h b

  -- what is stored is bytes
  bytes_are : (l : List ℕ) → Bytes (bytes_of w l)
  unfolding bytes_of
  bytes_are [] = λ x. omega arith
  bytes_are (x ∷ l) = bytes_both (low_bytes w x) (bytes_of w l) (low_are w x) (bytes_are l)

  pub stored_bytes : (new l : List ℕ) → Bytes l → Bytes (onto (bytes_of w new) l)
  stored_bytes new l B = bytes_both (bytes_of w new) (drop (length (bytes_of w new)) l) (bytes_are new) (bytes_drop (length (bytes_of w new)) l B)

-- words of two bytes
pub words_at_two : (l : List ℕ) (i : ℕ) → 2 * i + 1 < length l → get_or (words 2 l) i 0 ≡ get_or l (2 * i) 0 + 256 * get_or l (2 * i + 1) 0
unfolding word
words_at_two l i h = words_at 2 l i (omega (arith, words_length 2 l)) ∙ omega arith

pub bytes_low : (l : List ℕ) (i : ℕ) → i < length l → get_or (bytes_of 2 l) (2 * i) 0 ≡ get_or l i 0 % 256
unfolding low_bytes
bytes_low l i h = rw add-zero at (bytes_at 2 l i 0 h (omega arith))

pub bytes_high : (l : List ℕ) (i : ℕ) → i < length l → get_or (bytes_of 2 l) (2 * i + 1) 0 ≡ get_or l i 0 / 256 % 256
unfolding low_bytes
bytes_high l i h = bytes_at 2 l i 1 h (omega arith)
