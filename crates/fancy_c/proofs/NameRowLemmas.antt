-- Names and numbers, written one after another.
use Rattle.std.proofs.Common.{◌≡◌, ℕ, suc, ◌+◌, ◌<◌, ◌≤◌, List, [], ◌∷◌, ◌++◌, length, take, drop, set, get_or}
use Rattle.std.proofs.Common.{refl, sym, ap, subst, ◌∙◌, append_assoc, length-append, arith}
use Rattle.std.specs.Prelude.{encode_utf8_all}
use Rattle.std.proofs.lemmas.List.{set_split, length-map, get_or-map}
use Rattle.std.proofs.lemmas.List.Edits.{paste_more}
use Rattle.std.proofs.Math.Seq.{paste}
use Rattle.fancy_lex.specs.Text.{Text}
use Rattle.fancy_syntax.specs.Capacity.{in_word}
use Rattle.fancy_c.specs.Buffer.{put_at}
use Rattle.fancy_c.specs.InfoRows.{rows_of_name, name_rows, name_texts}
use Rattle.fancy_c.specs.declared.info_rows.Name.{Name}
use Rattle.fancy_c.proofs.RowLemmas.{put_more, put_length}

-- ---- one more row of a name

pub number_put : (names : List Name) (first o n : ℕ) (ks : List ℕ) (i : ℕ) → first + length ks ≤ length names →
    i < length ks
    → set (paste names first (rows_of_name o n ks) i) (first + i)
    (record { text = o; text_size = n; group = get_or ks i 0 })
    ≡ paste names first (rows_of_name o n ks) (i + 1)
number_put names first o n ks i capacity here =
    let row : ℕ → Name = λ j. record { text = o; text_size = n; group = j } in
    let size = length-map ks row in
    ap (λ r. set (paste names first (rows_of_name o n ks) i) (first + i) r) (sym (get_or-map row ks i 0 (row 0) here))
    ∙ paste_more names first (rows_of_name o n ks) i (row 0) (omega arith) (omega (arith, size))

-- ---- an item written before the rest

pub item_put : {A : Type 0} (d : List A) (i : ℕ) (x : A) (rest : List A) → i + 1 + length rest ≤ length d →
    put_at (set d i x) (i + 1) rest ≡ put_at d i (x ∷ rest)
item_put d i x rest capacity =
    let long : i < length d = omega (arith, capacity) in
    let at : suc i ≡ i + length (x ∷ []) = omega arith in
    let one : set d i x ≡ put_at d i (x ∷ []) =
    set_split d i x long ∙ ap (λ k. take i d ++ x ∷ drop k d) at
    ∙ sym (append_assoc (take i d) (x ∷ []) (drop (i + length (x ∷ [])) d)) in
    ap (λ e. put_at e (i + 1) rest) one ∙ put_more d i (i + 1) (x ∷ []) rest (omega arith) (omega (arith, capacity))

-- ---- names

pub rows_of_name_length : (o n : ℕ) (ks : List ℕ) → length (rows_of_name o n ks) ≡ length ks
rows_of_name_length o n ks =
    let row : ℕ → Name = λ k. record { text = o; text_size = n; group = k } in length-map ks row

pub names_length : (o p : ℕ) (l : List (Text × List ℕ)) → length (name_rows o l) ≡ length (name_rows p l)
names_length o p [] = refl
names_length o p ((w, ks) ∷ l) =
    let n = length (encode_utf8_all w) in
    let left = length-append (rows_of_name o n ks) (name_rows (o + n) l) in
    let right = length-append (rows_of_name p n ks) (name_rows (p + n) l) in
    omega (arith, left, right, rows_of_name_length o n ks, rows_of_name_length p n ks, names_length (o + n) (p + n) l)

-- a count that, with the rest added, is the first count with all names added
pub record CountingNames (n₀ o₀ n o : ℕ) (all rest : List (Text × List ℕ)) : Type 0 where
  pub rows : in_word (n + length (name_rows 0 rest)) ≡ in_word (n₀ + length (name_rows 0 all))
  pub text : in_word (o + length (name_texts rest)) ≡ in_word (o₀ + length (name_texts all))
  pub rows_fit : in_word n ≡ n
  pub text_fits : in_word o ≡ o

-- a writing in progress
pub record PuttingNames (names₀ names : List Name) (bytes₀ bytes : List ℕ) (n₀ o₀ n o : ℕ)
    (all rest : List (Text × List ℕ)) : Type 0 where
  pub names_capacity : n + length (name_rows o rest) ≤ length names
  pub bytes_capacity : o + length (name_texts rest) ≤ length bytes
  pub names_is : put_at names n (name_rows o rest) ≡ put_at names₀ n₀ (name_rows o₀ all)
  pub bytes_is : put_at bytes o (name_texts rest) ≡ put_at bytes₀ o₀ (name_texts all)

-- numbers that are being written into a buffer
pub record PuttingNumbers (buffer₀ buffer : List ℕ) (i : ℕ) (all rest : List ℕ) : Type 0 where
  pub capacity : i + length rest ≤ length buffer
  pub is : put_at buffer i rest ≡ put_at buffer₀ 0 all

pub names_count_next : {n₀ o₀ n o : ℕ} {all rest : List (Text × List ℕ)} (n' o' : ℕ) (w : Text) (ks : List ℕ)
    (more : List (Text × List ℕ))
    → CountingNames n₀ o₀ n o all rest → rest ≡ (w, ks) ∷ more → n' ≡ in_word (n + length ks) →
    o' ≡ in_word (o + length (encode_utf8_all w))
    → CountingNames n₀ o₀ n' o' all more
names_count_next n' o' w ks more c is at_n at_o =
    let m = length (encode_utf8_all w) in
    let rows = ap (λ l. length (name_rows 0 l)) is ∙ length-append (rows_of_name 0 m ks) (name_rows (0 + m) more) in
    let text = ap (λ l. length (name_texts l)) is ∙ length-append (encode_utf8_all w) (name_texts more) in
    record {
      rows = omega (arith, c.rows, at_n, rows, rows_of_name_length 0 m ks, names_length (0 + m) 0 more);
      text = omega (arith, c.text, at_o, text);
      rows_fit = omega (arith, at_n);
      text_fits = omega (arith, at_o);
    }

pub names_start : (names : List Name) (bytes : List ℕ) (n o : ℕ) (all rest : List (Text × List ℕ)) → rest ≡ all →
    n + length (name_rows 0 all) ≤ length names
    → o + length (name_texts all) ≤ length bytes → PuttingNames names names bytes bytes n o n o all rest
names_start names bytes n o all rest is capacity more =
    subst (λ l. PuttingNames names names bytes bytes n o n o all l) (sym is)
    (record {
      names_capacity = omega (arith, capacity, names_length 0 o all);
      bytes_capacity = more;
      names_is = refl;
      bytes_is =
          refl;
    })

pub name_capacity : {names₀ names : List Name} {bytes₀ bytes : List ℕ} {n₀ o₀ n o : ℕ} {all rest : List (Text × List ℕ)}
    (w : Text) (ks : List ℕ) (more : List (Text × List ℕ))
    → rest ≡ (w, ks) ∷ more → PuttingNames names₀ names bytes₀ bytes n₀ o₀ n o all rest
    → (n + length ks ≤ length names) × (o + length (encode_utf8_all w) ≤ length bytes)
name_capacity {o = o} w ks more is p =
    let m = length (encode_utf8_all w) in
    let rows = ap (λ l. length (name_rows o l)) is ∙ length-append (rows_of_name o m ks) (name_rows (o + m) more) in
    let text = ap (λ l. length (name_texts l)) is ∙ length-append (encode_utf8_all w) (name_texts more) in
    (omega (arith, p.names_capacity, rows, rows_of_name_length o m ks), omega (arith, p.bytes_capacity, text))

pub names_next : (names₀ names names' : List Name) (bytes₀ bytes bytes' : List ℕ) (n₀ o₀ n o n' o' : ℕ)
    (all rest : List (Text × List ℕ)) (w : Text) (ks : List ℕ) (more : List (Text × List ℕ))
    → PuttingNames names₀ names bytes₀ bytes n₀ o₀ n o all rest → rest ≡ (w, ks) ∷ more → n' ≡ n + length ks →
    o' ≡ o + length (encode_utf8_all w)
    → names' ≡ put_at names n (rows_of_name o (length (encode_utf8_all w)) ks)
    → bytes' ≡ put_at bytes o (encode_utf8_all w)
    → PuttingNames names₀ names' bytes₀ bytes' n₀ o₀ n' o' all more
names_next names₀ names names' bytes₀ bytes bytes' n₀ o₀ n o n' o' all rest w ks more p is at_n at_o put_n put_o =
    let m = length (encode_utf8_all w) in
    let here = rows_of_name o m ks in
    let size = rows_of_name_length o m ks in
    let rows = ap (λ l. length (name_rows o l)) is ∙ length-append here (name_rows (o + m) more) in
    let text = ap (λ l. length (name_texts l)) is ∙ length-append (encode_utf8_all w) (name_texts more) in
    let fits_n : n + length here ≤ length names = omega (arith, p.names_capacity, rows) in
    let fits_o : o + m ≤ length bytes = omega (arith, p.bytes_capacity, text) in
    let long_n : length names' ≡ length names = ap length put_n ∙ put_length names n here fits_n in
    let long_o : length bytes' ≡ length bytes = ap length put_o ∙ put_length bytes o (encode_utf8_all w) fits_o in
    let seam : n' ≡ n + length here = omega (arith, at_n, size) in
    record {
      names_capacity = omega (arith, p.names_capacity, rows, size, at_n, long_n, names_length o' (o + m) more);
      bytes_capacity = omega (arith, p.bytes_capacity, text, at_o, long_o);
      names_is =
          ap (λ d. put_at d n' (name_rows o' more)) put_n
          ∙ put_more names n n' here (name_rows o' more) seam (omega (arith, fits_n))
          ∙ ap (λ q. put_at names n (here ++ name_rows q more)) at_o
          ∙ ap (λ l. put_at names n (name_rows o l)) (sym is)
          ∙ p.names_is;
      bytes_is =
          ap (λ d. put_at d o' (name_texts more)) put_o
          ∙ put_more bytes o o' (encode_utf8_all w) (name_texts more) at_o (omega (arith, fits_o))
          ∙ ap (λ l. put_at bytes o (name_texts l)) (sym is)
          ∙ p.bytes_is;
    }
