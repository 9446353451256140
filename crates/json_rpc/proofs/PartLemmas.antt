-- Texts that are unescaped part by part, each to the front of the message that has them.
use Rattle.std.proofs.Common.{◌≡◌, ℕ, ◌+◌, ◌-◌, ◌≤◌, List, [], ◌++◌, ◌⊎◌, inl, inr, length, take, drop, slice_range, sym, ap, ◌∙◌, subst, arith, take-add, drop-drop, append_assoc, length-append, length-drop, length-take-le}
use Rattle.std.proofs.Math.Seq.{drop-append_seam}
use Rattle.json_rpc.proofs.LineLemmas.{taken}
use Rattle.json_rpc.specs.LongText.{SpellsText, SpellsInParts, no_part, next_part}

-- what two lists have in common from an offset on they have from a later one on
pub later_same : (xs ys : List ℕ) (i j : ℕ) → i ≤ j → drop i xs ≡ drop i ys → drop j xs ≡ drop j ys
later_same xs ys i j le same =
    let whole : i + (j - i) ≡ j = omega arith in
    ap (λ n. drop n xs) (sym whole) ∙ sym (drop-drop (j - i) i xs) ∙ ap (drop (j - i)) same ∙ drop-drop (j - i) i ys
    ∙ ap (λ n. drop n ys) whole

-- a range is one to an offset in it, and one from there on
ranges_join : (xs : List ℕ) (i j k : ℕ) → i ≤ j → j ≤ k → slice_range xs i k ≡ slice_range xs i j ++ slice_range xs j k
ranges_join xs i j k low high =
    let sizes : k - i ≡ (j - i) + (k - j) = omega arith in
    let whole : i + (j - i) ≡ j = omega arith in
    ap (λ n. take n (drop i xs)) sizes ∙ take-add (j - i) (k - j) (drop i xs)
    ∙ ap (λ l. slice_range xs i j ++ take (k - j) l) (drop-drop (j - i) i xs ∙ ap (λ n. drop n xs) whole)

-- before the first part
pub no_parts : (xs ys : List ℕ) (i : ℕ) → SpellsInParts (slice_range xs i i) (take 0 ys)
no_parts xs ys i =
    let none : i - i ≡ 0 = omega arith in subst (λ n. SpellsInParts (take n (drop i xs)) []) (sym none) no_part

-- one more part of the text at i, which the message still has from j on
pub one_more_part : (xs old new text : List ℕ) (i j k n m : ℕ) → i ≤ j → j ≤ k → drop j old ≡ drop j xs →
    SpellsInParts (slice_range xs i j) (take n old) → SpellsText (slice_range old j k) text →
    take (n + m) new ≡ take n old ++ text → SpellsInParts (slice_range xs i k) (take (n + m) new)
one_more_part xs old new text i j k n m low high same before part moved =
    subst (SpellsInParts (slice_range xs i k)) (sym moved)
    (subst (λ bytes. SpellsInParts bytes (take n old ++ text))
    (ap (λ l. slice_range xs i j ++ take (k - j) l) same ∙ sym (ranges_join xs i j k low high))
    (next_part (slice_range xs i j) (slice_range old j k) (take n old) text before part))

-- after the last part: the range to where it ends is the whole one
pub last_part : (xs text : List ℕ) (i j k : ℕ) → (j ≤ k) ⊎ (j ≡ i) → k ≤ j → SpellsInParts (slice_range xs i j) text →
    SpellsInParts (slice_range xs i k) text
last_part xs text i j k (inl le) past parts =
    let same : j - i ≡ k - i = omega arith in subst (λ n. SpellsInParts (take n (drop i xs)) text) same parts
last_part xs text i j k (inr e) past parts =
    let same : j - i ≡ k - i = omega arith in subst (λ n. SpellsInParts (take n (drop i xs)) text) same parts

-- what a write of b, which ends at e, leaves from a later offset on
module _ (xs b : List ℕ) (o e : ℕ) (ends : e ≡ o + length b) (within : e ≤ length xs) where
  whole : length (take o xs ++ (b ++ drop e xs)) ≡ length xs
  whole =
      omega (arith, length-append (take o xs) (b ++ drop e xs), length-append b (drop e xs), length-take-le o xs (omega arith), length-drop e xs)

  front : length (take o xs ++ b) ≡ e
  front = omega (arith, length-append (take o xs) b, length-take-le o xs (omega arith))

  after_end : drop e (take o xs ++ (b ++ drop e xs)) ≡ drop e xs
  after_end =
      ap (drop e) (sym (append_assoc (take o xs) b (drop e xs)))
      ∙ ap (λ n. drop n ((take o xs ++ b) ++ drop e xs)) (sym front) ∙ drop-append_seam (take o xs ++ b) (drop e xs)

  kept : (limit size : ℕ) → e ≤ limit → size ≡ length xs →
      drop limit (take size ((take o xs ++ (b ++ drop e xs)) ++ drop (length (take o xs ++ (b ++ drop e xs))) xs)) ≡ drop limit xs
  kept limit size low long =
      ap (drop limit) (taken (take o xs ++ (b ++ drop e xs)) _ size (long ∙ sym whole))
      ∙ later_same (take o xs ++ (b ++ drop e xs)) xs e limit low after_end

pub kept_after : (xs s b post : List ℕ) (o e limit size : ℕ) → s ≡ xs → post ≡ drop e s → e ≡ o + length b → e ≤ length xs →
    e ≤ limit → size ≡ length xs →
    drop limit (take size ((take o s ++ (b ++ post)) ++ drop (length (take o s ++ (b ++ post))) xs)) ≡ drop limit xs
kept_after xs s b post o e limit size is after ends within low long =
    subst
    (λ l. drop limit (take size ((take o l ++ (b ++ post)) ++ drop (length (take o l ++ (b ++ post))) xs)) ≡ drop limit xs) (sym is)
    (subst
    (λ l. drop limit (take size ((take o xs ++ (b ++ l)) ++ drop (length (take o xs ++ (b ++ l))) xs)) ≡ drop limit xs)
    (sym (after ∙ ap (drop e) is)) (kept xs b o e ends within limit size low long))
