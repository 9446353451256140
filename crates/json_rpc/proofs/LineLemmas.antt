-- Lines of known bytes: the header that is written is the one that is read.
use Rattle.std.proofs.Common.{◌≡◌, ◌≢◌, ◌<◌, ◌≤◌, ℕ, suc, Bool, true, false, List, [], ◌∷◌, ◌++◌, ◌^◌, length, take, drop, get_or, Option, Some, None, refl, sym, ap, subst, ◌∙◌, arith, append_assoc}
use Rattle.std.proofs.Common.{if◌then◌else◌, ◌==◌}
use Rattle.std.specs.Prelude.{codes, decimal}
use Rattle.std.specs.Io.KnownBytes.{Consumes}
use Rattle.std.proofs.Math.Seq.{take-append_seam, drop-append_seam}
use Rattle.std.proofs.lemmas.Bool.Decides.{nat_tests}
use Rattle.std.proofs.lemmas.Fmt.{decimal_is_IsNumeral}
use Rattle.std.proofs.lemmas.Str.Parse.{digit_at}
use Prim.Native.Char.{code}
use Rattle.json_rpc.specs.Header.{length_field, line_end, header, IsLine, IsLineRead}

-- ---- bytes that are read one after another

pub no_bytes : (old : Option (List ℕ)) → Consumes old old []
no_bytes None = tt
no_bytes (Some xs) = refl

pub more_bytes : (a b c : Option (List ℕ)) (xs ys : List ℕ) → Consumes a b xs → Consumes b c ys → Consumes a c (xs ++ ys)
more_bytes None b c xs ys h k = tt
more_bytes (Some x) None c xs ys h k = absurd h
more_bytes (Some x) (Some y) None xs ys h k = absurd k
more_bytes (Some x) (Some y) (Some z) xs ys h k = h ∙ ap (λ t. xs ++ t) k ∙ sym (append_assoc xs ys z)

-- ---- lines

pub line_more : (l : List ℕ) (c : ℕ) → IsLine l → c ≢ code "\n" → IsLine (l ++ (c ∷ []))
line_more [] c h k = (k, tt)
line_more (d ∷ l) c h k = (h.0, line_more l c h.1 k)

pub line_front : (l m : List ℕ) → IsLine (l ++ m) → IsLine l
line_front [] m h = tt
line_front (d ∷ l) m h = (h.0, line_front l m h.1)

-- a line that has not ended is longer by a byte
module _ (old mid new : Option (List ℕ)) (l : List ℕ) (byte : ℕ) (line : IsLine l) (read : Consumes old mid l)
    (next : Consumes mid new (byte ∷ [])) where
  pub line_grown : (m : List ℕ) → byte ≢ code "\n" → m ≡ l ++ (byte ∷ []) → IsLine m × Consumes old new m
  line_grown m no_feed is =
      subst (λ t. IsLine t × Consumes old new t) (sym is)
      (line_more l byte line no_feed, more_bytes old mid new l (byte ∷ []) read next)

  -- LF after CR ends it
  pub line_ended : (m : List ℕ) → byte ≡ code "\n" → l ≡ m ++ (code "\r" ∷ []) → IsLineRead old new m
  line_ended m feed is = (
    line_front m (code "\r" ∷ []) (subst IsLine is line),
    subst (Consumes old new)
        (ap (λ t. t ++ (byte ∷ [])) is ∙ append_assoc m (code "\r" ∷ []) (byte ∷ []) ∙ ap (λ c. m ++ (code "\r" ∷ c ∷ [])) feed)
        (more_bytes old mid new l (byte ∷ []) read next),
  )

pub taken : (xs ys : List ℕ) (n : ℕ) → n ≡ length xs → take n (xs ++ ys) ≡ xs
taken xs ys n long = ap (λ k. take k (xs ++ ys)) long ∙ take-append_seam xs ys

-- as many bytes as a message has are the message
pub exactly : (new : Option (List ℕ)) (bytes message rest : List ℕ) → length bytes ≡ length message →
    Consumes (Some (message ++ rest)) new bytes → (bytes ≡ message) × (new ≡ Some rest)
exactly None bytes message rest long h = absurd h
exactly (Some left) bytes message rest long h = (front, ap Some back) where
  front : bytes ≡ message
  front =
      sym (take-append_seam bytes left) ∙ ap (take (length bytes)) (sym h) ∙ ap (λ n. take n (message ++ rest)) long
      ∙ take-append_seam message rest

  back : left ≡ rest
  back =
      sym (drop-append_seam bytes left) ∙ ap (drop (length bytes)) (sym h) ∙ ap (λ n. drop n (message ++ rest)) long
      ∙ drop-append_seam message rest

-- a text begins with one line
one_line : (l m r s : List ℕ) → IsLine l → IsLine m → l ++ (13 ∷ 10 ∷ r) ≡ m ++ (13 ∷ 10 ∷ s) → (l ≡ m) × (r ≡ s)
one_line [] [] r s h k e = (refl, cc)
one_line [] (c ∷ []) r s h k e = absurd (cc)
one_line [] (c ∷ d ∷ m) r s h k e = let feed : d ≡ 10 = cc in absurd (k.1.0 feed)
one_line (c ∷ []) [] r s h k e = absurd (cc)
one_line (c ∷ d ∷ l) [] r s h k e = let feed : d ≡ 10 = cc in absurd (h.1.0 feed)
one_line (c ∷ l) (d ∷ m) r s h k e =
    let first : c ≡ d = cc in
    let rest : l ++ (13 ∷ 10 ∷ r) ≡ m ++ (13 ∷ 10 ∷ s) = cc in
    let both = one_line l m r s h.1 k.1 rest in
    (ap (λ x. x ∷ l) first ∙ ap (λ t. d ∷ t) both.0, both.1)

-- the line that is read of bytes that begin with a line
pub read_line_is : (old new : Option (List ℕ)) (l m s : List ℕ) → IsLineRead old new l → IsLine m → old ≡ Some (m ++ (13 ∷ 10 ∷ s)) →
    (l ≡ m) × (new ≡ Some s)
read_line_is None new l m s h k e = absurd (cc)
read_line_is (Some xs) None l m s h k e = absurd h.1
read_line_is (Some xs) (Some ys) l m s h k e =
    let known : xs ≡ m ++ (13 ∷ 10 ∷ s) = cc in
    let both = one_line l m ys s h.0 k (sym (append_assoc l line_end ys) ∙ sym h.1 ∙ known) in
    (both.0, ap Some both.1)

-- ---- the header

digits_line : (l : List ℕ) → ((k : ℕ) → k < length l → 48 ≤ get_or l k 0) → IsLine l
digits_line [] h = tt
digits_line (c ∷ l) h = (no_feed, digits_line l later) where
  no_feed : c ≢ code "\n"
  no_feed e = let digit : 48 ≤ c = h 0 (omega arith) in omega arith

  later : (k : ℕ) → k < length l → 48 ≤ get_or l k 0
  later k below = h (suc k) (omega arith)

decimal_line : (n : ℕ) → n < 2 ^ 64 → IsLine (decimal n)
decimal_line n h = digits_line (decimal n) (λ k below. (digit_at (decimal n) k (decimal_is_IsNumeral n h).0.1 below).0)

line_append : (l m : List ℕ) → IsLine l → IsLine m → IsLine (l ++ m)
line_append [] m h k = k
line_append (c ∷ l) m h k = (h.0, line_append l m h.1 k)

has_feed : List ℕ → Bool
has_feed [] = false
has_feed (c ∷ l) = if c == code "\n" then true else has_feed l

no_feeds : (l : List ℕ) → has_feed l ≡ false → IsLine l
unfolding has_feed
no_feeds [] h = tt
no_feeds (c ∷ l) h = by_test (c == code "\n") refl (no_feeds l) h where
  differs : (c == code "\n") ≡ false → c ≢ code "\n"
  differs q e = grind (arith, nat_tests)

  by_test : (b : Bool) → (c == code "\n") ≡ b → (has_feed l ≡ false → IsLine l) → (if b then true else has_feed l) ≡ false →
      (c ≢ code "\n") × IsLine l
  by_test true q ih h = absurd (cc)
  by_test false q ih h = (differs q, ih h)

name_line : IsLine (codes "Content-Length: ")
unfolding has_feed
name_line = no_feeds (codes "Content-Length: ") refl

field_line : (n : ℕ) → n < 2 ^ 64 → IsLine (length_field n)
field_line n h = line_append (codes "Content-Length: ") (decimal n) name_line (decimal_line n h)

module _ (old new : Option (List ℕ)) (l rest : List ℕ) (read : IsLineRead old new l) where
  pub first_line_is : (m : ℕ) → m < 2 ^ 64 → old ≡ Some (header m ++ rest) → (l ≡ length_field m) × (new ≡ Some (line_end ++ rest))
  first_line_is m h e =
      read_line_is old new l (length_field m) (line_end ++ rest) read (field_line m h)
      (e ∙ ap Some (append_assoc (length_field m) (line_end ++ line_end) rest))

  pub last_line_is : old ≡ Some (line_end ++ rest) → (l ≡ []) × (new ≡ Some rest)
  last_line_is e = read_line_is old new l [] rest read tt e
