-- Rows of a tree, written one after another.
use Rattle.std.proofs.Common.{◌≡◌, ℕ, suc, ◌+◌, ◌<◌, ◌≤◌, List, [], ◌∷◌, ◌++◌, length, take, drop, set, get_or, refl, sym}
use Rattle.std.proofs.Common.{ap, subst, ◌∙◌, append_assoc, append-nil, length-append, arith}
use Rattle.std.proofs.Math.Seq.{drop-append_seam}
use Rattle.std.proofs.lemmas.List.{set_split, take_all, take-append-le, take-take, length-take-le}
use Rattle.std.proofs.lemmas.List.Edits.{paste-paste, length-paste, paste_none}
use Rattle.std.proofs.Math.Seq.{paste}
use Rattle.fancy_grammar.specs.Label as label
use Rattle.fancy_grammar.specs.Tree.{Tree, leaf, over, row as row_of, Trees, no_trees, more_trees, list_of, children}
use Rattle.fancy_syntax.specs.Capacity.{in_word}
use Rattle.fancy_c.specs.Buffer.{put_at}
use Rattle.fancy_c.specs.Node.{listed, listed_all, listed_each, carried, texts, start_of_text, row, rows, SpanAt}
use Rattle.fancy_c.specs.declared.node.Node.{Node}

-- ---- the nodes of a tree are the node and those of its children

listed_list : (ts : Trees) → listed_all ts ≡ listed_each (list_of ts)
listed_list no_trees = refl
listed_list (more_trees t ts) = ap (λ l. listed t ++ l) (listed_list ts)

one : (t : Tree) → listed t ≡ listed_each (t ∷ [])
one t = sym (append-nil (listed t))

pub listed_is : (t : Tree) → listed t ≡ t ∷ listed_each (children t)
listed_is (leaf l) = refl
listed_is (over (label.ast_group name position) t) = refl
listed_is (over w t) = ap (λ l. over w t ∷ l) (one t)
listed_is (row_of r ts) = ap (λ l. row_of r ts ∷ l) (listed_list ts)

-- ---- texts and rows of several nodes

pub texts-append : (xs ys : List Tree) → texts (xs ++ ys) ≡ texts xs ++ texts ys
texts-append [] ys = refl
texts-append (x ∷ xs) ys = ap (λ l. carried x ++ l) (texts-append xs ys)
    ∙ sym (append_assoc (carried x) (texts xs) (texts ys))

pub texts_length : (xs ys : List Tree) → length (texts (xs ++ ys)) ≡ length (texts xs) + length (texts ys)
texts_length xs ys = ap length (texts-append xs ys) ∙ length-append (texts xs) (texts ys)

pub rows_length : (at : SpanAt) (i o : ℕ) (xs : List Tree) → length (rows at i o xs) ≡ length xs
rows_length at i o [] = refl
rows_length at i o (x ∷ xs) = ap suc (rows_length at (i + 1) (o + length (carried x)) xs)

rows_at : (at : SpanAt) (i j o p : ℕ) (xs : List Tree) → i ≡ j → o ≡ p → rows at i o xs ≡ rows at j p xs
rows_at at i j o p xs e f = ap (λ k. rows at k o xs) e ∙ ap (λ q. rows at j q xs) f

pub rows-append : (at : SpanAt) (i o : ℕ) (xs ys : List Tree) →
    rows at i o (xs ++ ys) ≡ rows at i o xs ++ rows at (i + length xs) (o + length (texts xs)) ys
rows-append at i o [] ys = rows_at at i (i + 0) o (o + 0) ys (omega arith) (omega arith)
rows-append at i o (x ∷ xs) ys =
    ap (λ l. row (record { end = i + length (listed x); text = start_of_text o (carried x); span = at i }) x ∷ l)
    (rows-append at (i + 1) (o + length (carried x)) xs ys
    ∙ ap (λ l. rows at (i + 1) (o + length (carried x)) xs ++ l)
    (rows_at at _ _ _ _ ys (omega arith) (omega (arith, length-append (carried x) (texts xs)))))

-- ---- what is written

pub put_is : {A : Type 0} (d : List A) (i : ℕ) (xs : List A) → put_at d i xs ≡ paste d i xs (length xs)
put_is d i xs = ap (λ l. take i d ++ l ++ drop (i + length xs) d) (sym (take_all (length xs) xs (omega arith)))

pub put_length : {A : Type 0} (d : List A) (i : ℕ) (xs : List A) → i + length xs ≤ length d →
    length (put_at d i xs) ≡ length d
put_length d i xs capacity = ap length (put_is d i xs) ∙ length-paste d i xs (length xs) capacity (omega arith)

pub put_none : {A : Type 0} (d : List A) (i : ℕ) → put_at d i [] ≡ d
put_none d i = put_is d i [] ∙ sym (paste_none d i [])

pub put_more : {A : Type 0} (d : List A) (i j : ℕ) (xs ys : List A) → j ≡ i + length xs → i ≤ length d →
    put_at (put_at d i xs) j ys ≡ put_at d i (xs ++ ys)
put_more d i j xs ys is capacity =
    put_is (put_at d i xs) j ys ∙ ap (λ e. paste e j ys (length ys)) (put_is d i xs)
    ∙ ap (λ k. paste (paste d i xs (length xs)) k ys (length ys)) is
    ∙ paste-paste d i xs ys (length xs) (length ys) refl refl capacity
    ∙ ap (λ n. paste d i (xs ++ ys) n) (sym (length-append xs ys))
    ∙ sym (put_is d i (xs ++ ys))

pub put_nothing : {A : Type 0} (d xs : List A) (i : ℕ) → xs ≡ [] → d ≡ put_at d i xs
put_nothing d xs i none = sym (put_none d i) ∙ ap (put_at d i) (sym none)

-- an item before what was put
pub put_before : {A : Type 0} (d : List A) (i : ℕ) (x : A) (xs : List A) → i + 1 + length xs ≤ length d →
    set (put_at d (i + 1) xs) i x ≡ put_at d i (x ∷ xs)
put_before d i x xs capacity =
    let j = i + 1 in
    let rest = drop (j + length xs) d in
    let front : length (take j d) ≡ j = length-take-le j d (omega (arith, capacity)) in
    let flat : put_at d j xs ≡ take j d ++ (xs ++ rest) = append_assoc (take j d) xs rest in
    let long : i < length (take j d ++ (xs ++ rest)) = omega (arith, front, length-append (take j d) (xs ++ rest)) in
    let before : take i (take j d ++ (xs ++ rest)) ≡ take i d =
    take-append-le i (take j d) (xs ++ rest) (omega (arith, front)) ∙ take-take i j d (omega arith) in
    let seam : suc i ≡ length (take j d) = omega (arith, front) in
    let after : drop (suc i) (take j d ++ (xs ++ rest)) ≡ xs ++ rest =
    ap (λ k. drop k (take j d ++ (xs ++ rest))) seam ∙ drop-append_seam (take j d) (xs ++ rest) in
    let end : j + length xs ≡ i + length (x ∷ xs) = omega arith in
    let same : rest ≡ drop (i + length (x ∷ xs)) d = ap (λ k. drop k d) end in
    ap (λ l. set l i x) flat
    ∙ set_split (take j d ++ (xs ++ rest)) i x long
    ∙ ap (λ l. l ++ x ∷ drop (suc i) (take j d ++ (xs ++ rest))) before
    ∙ ap (λ l. take i d ++ x ∷ l) after
    ∙ ap (λ l. take i d ++ x ∷ (xs ++ l)) same
    ∙ sym (append_assoc (take i d) (x ∷ xs) (drop (i + length (x ∷ xs)) d))

put_one : {A : Type 0} (d : List A) (i : ℕ) (x : A) → i + 1 ≤ length d → set d i x ≡ put_at d i (x ∷ [])
put_one d i x capacity =
    ap (λ l. set l i x) (put_nothing d [] (i + 1) refl) ∙ put_before d i x [] (omega (arith, capacity))

pub put_first : {A : Type 0} (d xs : List A) (i : ℕ) (z : A) → length xs ≡ 1 → i + 1 ≤ length d →
    set d i (get_or xs 0 z) ≡ put_at d i xs
put_first d [] i z size capacity = absurd (omega (arith, size))
put_first d (x ∷ []) i z size capacity = put_one d i x capacity
put_first d (x ∷ y ∷ xs) i z size capacity = absurd (omega (arith, size))

-- ---- a tree is written: its text, its children, and then its row

pub listed_length : (t : Tree) → length (listed t) ≡ 1 + length (listed_each (children t))
listed_length t = ap length (listed_is t) ∙ omega arith

pub texts_is : (t : Tree) → texts (listed t) ≡ carried t ++ texts (listed_each (children t))
texts_is t = ap texts (listed_is t)

pub texts_size : (t : Tree) → length (texts (listed t)) ≡ length (carried t) + length (texts (listed_each (children t)))
texts_size t = ap length (texts_is t) ∙ length-append (carried t) (texts (listed_each (children t)))

-- a node without children
leaf_listed : (t : Tree) → children t ≡ [] → listed t ≡ t ∷ []
leaf_listed t childless = listed_is t ∙ ap (λ ts. t ∷ listed_each ts) childless

pub leaf_length : (t : Tree) → children t ≡ [] → length (listed t) ≡ 1
leaf_length t childless = ap length (leaf_listed t childless)

pub leaf_texts : (t : Tree) → children t ≡ [] → texts (listed t) ≡ carried t
leaf_texts t childless = ap texts (leaf_listed t childless) ∙ append-nil (carried t)

pub leaf_size : (t : Tree) → children t ≡ [] → length (texts (listed t)) ≡ length (carried t)
leaf_size t childless = ap length (leaf_texts t childless)

-- the position after the text
pub text_position : (w v : List ℕ) (o p : ℕ) → w ≡ v → p ≡ o + length w → p ≡ o + length v
text_position w v o p is at = at ∙ ap (λ u. o + length u) is

pub row_put : (at : SpanAt) (t : Tree) (nodes nodes' : List Node) (n o b p : ℕ) →
    b ≡ n + 1 + length (listed_each (children t)) →
    p ≡ start_of_text o (carried t) → n + length (listed t) ≤ length nodes
    → nodes' ≡ put_at nodes (n + 1) (rows at (n + 1) (o + length (carried t)) (listed_each (children t)))
    → set nodes' n (row (record { end = b; text = p; span = at n }) t) ≡ put_at nodes n (rows at n o (listed t))
row_put at t nodes nodes' n o b p end start capacity put =
    let inside = rows at (n + 1) (o + length (carried t)) (listed_each (children t)) in
    let size = rows_length at (n + 1) (o + length (carried t)) (listed_each (children t)) in
    let long = listed_length t in
    let end_is : b ≡ n + length (listed t) = omega (arith, end, long) in
    ap (λ l. set l n (row (record { end = b; text = p; span = at n }) t)) put
    ∙ put_before nodes n (row (record { end = b; text = p; span = at n }) t) inside (omega (arith, capacity, long, size))
    ∙ ap (λ e. put_at nodes n (row (record { end = e; text = p; span = at n }) t ∷ inside)) end_is
    ∙ ap (λ q. put_at nodes n (row (record { end = n + length (listed t); text = q; span = at n }) t ∷ inside)) start
    ∙ ap (λ l. put_at nodes n (rows at n o l)) (sym (listed_is t))

pub leaf_put : (at : SpanAt) (t : Tree) (nodes : List Node) (n o b p : ℕ) → children t ≡ [] → b ≡ n + 1 →
    p ≡ start_of_text o (carried t) → n + length (listed t) ≤ length nodes →
    set nodes n (row (record { end = b; text = p; span = at n }) t) ≡ put_at nodes n (rows at n o (listed t))
leaf_put at t nodes n o b p childless end start capacity =
    let none : listed_each (children t) ≡ [] = ap listed_each childless in
    let no_rows : length (listed_each (children t)) ≡ 0 = ap length none in
    row_put at t nodes nodes n o b p (omega (arith, end, no_rows)) start capacity
    (put_nothing nodes (rows at (n + 1) (o + length (carried t)) (listed_each (children t))) (n + 1)
    (ap (rows at (n + 1) (o + length (carried t))) none))

pub text_put : (t : Tree) (bytes bytes' bytes'' : List ℕ) (o p : ℕ) → p ≡ o + length (carried t) →
    o + length (texts (listed t)) ≤ length bytes
    → bytes' ≡ put_at bytes o (carried t) → bytes'' ≡ put_at bytes' p (texts (listed_each (children t))) →
    bytes'' ≡ put_at bytes o (texts (listed t))
text_put t bytes bytes' bytes'' o p is capacity put puts =
    puts ∙ ap (λ d. put_at d p (texts (listed_each (children t)))) put
    ∙ put_more bytes o p (carried t) (texts (listed_each (children t))) is (omega (arith, capacity))
    ∙ ap (put_at bytes o) (sym (texts_is t))

-- ---- a writing in progress: the rows of `all` follow n₀ and o₀ once those of `left` follow n and o
pub record Putting (at : SpanAt) (nodes₀ nodes : List Node) (bytes₀ bytes : List ℕ) (n₀ o₀ n o : ℕ)
    (all left : List Tree) : Type 0
  where
    pub nodes_capacity : n + length left ≤ length nodes
    pub bytes_capacity : o + length (texts left) ≤ length bytes
    pub nodes_end : n + length left ≡ n₀ + length all
    pub bytes_end : o + length (texts left) ≡ o₀ + length (texts all)
    pub nodes_is : put_at nodes n (rows at n o left) ≡ put_at nodes₀ n₀ (rows at n₀ o₀ all)
    pub bytes_is : put_at bytes o (texts left) ≡ put_at bytes₀ o₀ (texts all)

pub putting_starts : (at : SpanAt) (nodes : List Node) (bytes : List ℕ) (n o : ℕ) (all left : List Tree) → left ≡ all
    → n + length all ≤ length nodes → o + length (texts all) ≤ length bytes →
    Putting at nodes nodes bytes bytes n o n o all left
putting_starts at nodes bytes n o all left is capacity more =
    subst (λ l. Putting at nodes nodes bytes bytes n o n o all l) (sym is) here where
      here : Putting at nodes nodes bytes bytes n o n o all all
      here = record {
        nodes_capacity = capacity;
        bytes_capacity = more;
        nodes_end = refl;
        bytes_end = refl;
        nodes_is = refl;
        bytes_is =
            refl;
      }

pub putting_as : {at : SpanAt} {nodes₀ nodes : List Node} {bytes₀ bytes : List ℕ} {n₀ o₀ n o : ℕ} {all left : List Tree}
    (other : List Tree) → left ≡ other
    → Putting at nodes₀ nodes bytes₀ bytes n₀ o₀ n o all left → Putting at nodes₀ nodes bytes₀ bytes n₀ o₀ n o all other
putting_as {at} {nodes₀} {nodes} {bytes₀} {bytes} {n₀} {o₀} {n} {o} {all} {left} other is p =
    subst (λ l. Putting at nodes₀ nodes bytes₀ bytes n₀ o₀ n o all l) is p

pub putting_next : (at : SpanAt) (nodes₀ nodes nodes' : List Node) (bytes₀ bytes bytes' : List ℕ) (n₀ o₀ n o n' o' : ℕ)
    (all xs left : List Tree)
    → Putting at nodes₀ nodes bytes₀ bytes n₀ o₀ n o all (xs ++ left) → n' ≡ n + length xs → o' ≡ o + length (texts xs)
    → nodes' ≡ put_at nodes n (rows at n o xs) → bytes' ≡ put_at bytes o (texts xs)
    → Putting at nodes₀ nodes' bytes₀ bytes' n₀ o₀ n' o' all left
putting_next at nodes₀ nodes nodes' bytes₀ bytes bytes' n₀ o₀ n o n' o' all xs left p at_n at_o put_n put_o =
    let both = length-append xs left in
    let both_texts = texts_length xs left in
    let rows_xs = rows_length at n o xs in
    let fits_n : n + length (rows at n o xs) ≤ length nodes = omega (arith, p.nodes_capacity, both, rows_xs) in
    let fits_o : o + length (texts xs) ≤ length bytes = omega (arith, p.bytes_capacity, both_texts) in
    let long_n : length nodes' ≡ length nodes = ap length put_n ∙ put_length nodes n (rows at n o xs) fits_n in
    let long_o : length bytes' ≡ length bytes = ap length put_o ∙ put_length bytes o (texts xs) fits_o in
    record {
      nodes_capacity = omega (arith, p.nodes_capacity, both, at_n, long_n);
      bytes_capacity = omega (arith, p.bytes_capacity, both_texts, at_o, long_o);
      nodes_end = omega (arith, p.nodes_end, both, at_n);
      bytes_end = omega (arith, p.bytes_end, both_texts, at_o);
      nodes_is =
          ap (λ d. put_at d n' (rows at n' o' left)) put_n
          ∙ put_more nodes n n' (rows at n o xs) (rows at n' o' left) (omega (arith, at_n, rows_xs))
          (omega (arith, fits_n))
          ∙ ap (λ l. put_at nodes n (rows at n o xs ++ l))
          (rows_at at n' (n + length xs) o' (o + length (texts xs)) left at_n at_o)
          ∙ ap (put_at nodes n) (sym (rows-append at n o xs left))
          ∙ p.nodes_is;
      bytes_is =
          ap (λ d. put_at d o' (texts left)) put_o
          ∙ put_more bytes o o' (texts xs) (texts left) at_o (omega (arith, fits_o))
          ∙ ap (put_at bytes o) (sym (texts-append xs left))
          ∙ p.bytes_is;
    }

pub putting_ends : (at : SpanAt) (nodes₀ nodes : List Node) (bytes₀ bytes : List ℕ) (n₀ o₀ n o : ℕ)
    (all left : List Tree)
    → Putting at nodes₀ nodes bytes₀ bytes n₀ o₀ n o all left → left ≡ []
    → (n ≡ n₀ + length all) × (o ≡ o₀ + length (texts all)) × (nodes ≡ put_at nodes₀ n₀ (rows at n₀ o₀ all))
    × (bytes ≡ put_at bytes₀ o₀ (texts all))
putting_ends at nodes₀ nodes bytes₀ bytes n₀ o₀ n o all left p is =
    here (subst (λ l. Putting at nodes₀ nodes bytes₀ bytes n₀ o₀ n o all l) is p) where
      here : Putting at nodes₀ nodes bytes₀ bytes n₀ o₀ n o all [] →
          (n ≡ n₀ + length all) × (o ≡ o₀ + length (texts all)) × (nodes ≡ put_at nodes₀ n₀ (rows at n₀ o₀ all))
          × (bytes ≡ put_at bytes₀ o₀ (texts all))
      here q = (
        omega (arith, q.nodes_end),
        omega (arith, q.bytes_end),
        sym (put_none nodes n) ∙ q.nodes_is,
        sym (put_none bytes o) ∙ q.bytes_is,
      )

pub putting_capacity : {at : SpanAt} {nodes₀ nodes : List Node} {bytes₀ bytes : List ℕ} {n₀ o₀ n o : ℕ}
    {all left : List Tree}
    (xs rest : List Tree) → left ≡ xs ++ rest
    → Putting at nodes₀ nodes bytes₀ bytes n₀ o₀ n o all left →
    (n + length xs ≤ length nodes) × (o + length (texts xs) ≤ length bytes)
putting_capacity {n = n} {o = o} xs rest is p =
    let size = ap length is ∙ length-append xs rest in
    let text_size = ap (λ l. length (texts l)) is ∙ texts_length xs rest in
    (omega (arith, p.nodes_capacity, size), omega (arith, p.bytes_capacity, text_size))

-- ---- a count in progress

-- a count that, with the rows of `left` added, is the first count with those of `all` added
pub record CountingRows (n₀ o₀ n o : ℕ) (all left : List Tree) : Type 0 where
  pub nodes : in_word (n + length left) ≡ in_word (n₀ + length all)
  pub text : in_word (o + length (texts left)) ≡ in_word (o₀ + length (texts all))
  pub nodes_fit : in_word n ≡ n
  pub text_fits : in_word o ≡ o

pub rows_count_starts : (n₀ o₀ n o : ℕ) (t : Tree) (left : List Tree) → left ≡ listed_each (children t) →
    n ≡ in_word (n₀ + 1) → o ≡ in_word (o₀ + length (carried t))
    → CountingRows n₀ o₀ n o (listed t) left
rows_count_starts n₀ o₀ n o t left is at_n at_o = subst (λ l. CountingRows n₀ o₀ n o (listed t) l) (sym is) (record {
  nodes = omega (arith, at_n, listed_length t);
  text = omega (arith, at_o, texts_size t);
  nodes_fit = omega (arith, at_n);
  text_fits = omega (arith, at_o);
})

pub rows_count_next : {n₀ o₀ n o : ℕ} {all before : List Tree} (n' o' : ℕ) (xs left : List Tree) →
    CountingRows n₀ o₀ n o all before → before ≡ xs ++ left
    → n' ≡ in_word (n + length xs) → o' ≡ in_word (o + length (texts xs)) → CountingRows n₀ o₀ n' o' all left
rows_count_next n' o' xs left c is at_n at_o =
    let size = ap length is ∙ length-append xs left in
    let text_size = ap (λ l. length (texts l)) is ∙ texts_length xs left in
    record {
      nodes = omega (arith, c.nodes, at_n, size);
      text = omega (arith, c.text, at_o, text_size);
      nodes_fit = omega (arith, at_n);
      text_fits = omega (arith, at_o);
    }

pub rows_count_ends : {n₀ o₀ n o : ℕ} {all left : List Tree} → CountingRows n₀ o₀ n o all left → left ≡ [] →
    (n ≡ in_word (n₀ + length all)) × (o ≡ in_word (o₀ + length (texts all)))
rows_count_ends c is =
    let size = ap length is in
    let text_size = ap (λ l. length (texts l)) is in
    (omega (arith, c.nodes, c.nodes_fit, size), omega (arith, c.text, c.text_fits, text_size))
