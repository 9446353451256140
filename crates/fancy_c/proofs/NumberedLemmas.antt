-- Groups get their numbers, one row after another.
use Rattle.std.proofs.Common.{◌≡◌, ℕ, zero, suc, ◌+◌, ◌<◌, ◌≤◌, List, [], ◌∷◌, ◌++◌, length, take, drop, set, get_or, refl}
use Rattle.std.proofs.Common.{◌≢◌, if◌then◌else◌}
use Rattle.std.proofs.lemmas.Bool.{eq-eqb, ne_eqb}
use Rattle.std.proofs.Common.{sym, ap, ◌∙◌, zero-add, arith}
use Rattle.std.proofs.Math.Seq.{drop-append_seam, paste}
use Rattle.std.proofs.lemmas.List.{set-get_or, get_or-take, get_or-drop, length-take-le, take_all, take-append-le, take_more}
use Rattle.std.proofs.lemmas.List.Edits.{drop-paste, paste_more, paste_all}
use Rattle.fancy_c.specs.Buffer.{put_at}
use Rattle.fancy_c.specs.Numbered.{numbered, numbered_row, groups_through}
use Rattle.fancy_c.specs.declared.node.Node.{Node}
use Rattle.fancy_c.specs.declared.node.TheConstants.{NODE_GROUP}

-- how many groups there are through these rows, if there are g before them
abbrev pub groups_in : ℕ → List Node → ℕ
groups_in g [] = g
groups_in g (r ∷ rs) = groups_in (groups_through g r) rs

pub numbered_length : (g : ℕ) (rs : List Node) → length (numbered g rs) ≡ length rs
numbered_length g [] = refl
numbered_length g (r ∷ rs) = omega (arith, numbered_length (groups_through g r) rs)

numbered_get : (g : ℕ) (rs : List Node) (i : ℕ) (d : Node) → i < length rs →
    get_or (numbered g rs) i d ≡ numbered_row (groups_in g (take i rs)) (get_or rs i d)
numbered_get g [] i d h = absurd (omega (arith, h))
numbered_get g (r ∷ rs) zero d h = refl
numbered_get g (r ∷ rs) (suc i) d h = numbered_get (groups_through g r) rs i d (omega (arith, h))

groups_in_last : (g : ℕ) (rs : List Node) (r : Node) → groups_in g (rs ++ r ∷ []) ≡ groups_through (groups_in g rs) r
groups_in_last g [] r = refl
groups_in_last g (x ∷ xs) r = groups_in_last (groups_through g x) xs r

numbered_group : (g : ℕ) (r : Node) → r.kind ≡ NODE_GROUP → numbered_row g r ≡ record r { group = g + 1 }
numbered_group g r is = ap (λ b. if b then record r { group = g + 1 } else r) (eq-eqb r.kind NODE_GROUP is)

numbered_other : (g : ℕ) (r : Node) → r.kind ≢ NODE_GROUP → numbered_row g r ≡ r
numbered_other g r other = ap (λ b. if b then record r { group = g + 1 } else r) (ne_eqb r.kind NODE_GROUP other)

through_group : (g : ℕ) (r : Node) → r.kind ≡ NODE_GROUP → groups_through g r ≡ g + 1
through_group g r is = ap (λ b. if b then g + 1 else g) (eq-eqb r.kind NODE_GROUP is)

through_other : (g : ℕ) (r : Node) → r.kind ≢ NODE_GROUP → groups_through g r ≡ g
through_other g r other = ap (λ b. if b then g + 1 else g) (ne_eqb r.kind NODE_GROUP other)

-- rows of which the first i have their numbers, and i rows have so many groups
pub record Numbering (nodes₀ nodes : List Node) (count i groups : ℕ) : Type 0 where
  pub nodes_are : nodes ≡ paste nodes₀ 0 (numbered 0 (take count nodes₀)) i
  pub groups_are : groups ≡ groups_in 0 (take i (take count nodes₀))
  pub few : groups ≤ i

-- what was not written yet is as it was
unwritten : (d s : List Node) (i : ℕ) (z : Node) → i ≤ length s → get_or (paste d 0 s i) i z ≡ get_or d i z
unwritten d s i z fits =
    let at : i ≡ 0 + i + 0 = omega arith in
    ap (λ k. get_or (paste d 0 s i) k z) at
    ∙ sym (get_or-drop (0 + i) (paste d 0 s i) 0 z)
    ∙ ap (λ l. get_or l 0 z) (drop-paste d 0 s i (omega arith) fits)
    ∙ get_or-drop (0 + i) d 0 z
    ∙ ap (λ k. get_or d k z) (sym at)

pub numbering_row : (nodes₀ nodes : List Node) (count i groups : ℕ) (z : Node) → count ≤ length nodes₀ → i < count →
    Numbering nodes₀ nodes count i groups → get_or nodes i z ≡ get_or (take count nodes₀) i z
numbering_row nodes₀ nodes count i groups z capacity here p =
    let rows = take count nodes₀ in
    let size : length rows ≡ count = length-take-le count nodes₀ capacity in
    ap (λ l. get_or l i z) p.nodes_are
    ∙ unwritten nodes₀ (numbered 0 rows) i z (omega (arith, size, here, numbered_length 0 rows))
    ∙ sym (get_or-take count nodes₀ i z here)

numbering_next : (nodes₀ nodes nodes' : List Node) (count i groups groups' : ℕ) (z : Node) →
    count ≤ length nodes₀ → i < count → Numbering nodes₀ nodes count i groups →
    nodes' ≡ set nodes i (numbered_row groups (get_or nodes i z)) → groups' ≡ groups_through groups (get_or nodes i z) →
    groups' ≤ groups + 1 → Numbering nodes₀ nodes' count (i + 1) groups'
numbering_next nodes₀ nodes nodes' count i groups groups' z capacity here p put through few =
    let r = get_or nodes i z in
    let rows = take count nodes₀ in
    let s = numbered 0 rows in
    let size : length rows ≡ count = length-take-le count nodes₀ capacity in
    let long : length s ≡ count = numbered_length 0 rows ∙ size in
    let inside : i < length rows = omega (arith, size, here) in
    let at : r ≡ get_or rows i z = numbering_row nodes₀ nodes count i groups z capacity here p in
    let row : numbered_row groups r ≡ get_or s i z =
    ap (λ g. numbered_row g r) p.groups_are ∙ ap (numbered_row (groups_in 0 (take i rows))) at
    ∙ sym (numbered_get 0 rows i z inside) in
    record {
      nodes_are =
          put ∙ ap (λ l. set l i (numbered_row groups r)) p.nodes_are
          ∙ ap (λ x. set (paste nodes₀ 0 s i) i x) row
          ∙ ap (λ k. set (paste nodes₀ 0 s i) k (get_or s i z)) (sym (zero-add i))
          ∙ paste_more nodes₀ 0 s i z (omega (arith, here, capacity)) (omega (arith, long, here));
      groups_are =
          through ∙ ap (λ g. groups_through g r) p.groups_are ∙ ap (groups_through (groups_in 0 (take i rows))) at
          ∙ sym (groups_in_last 0 (take i rows) (get_or rows i z))
          ∙ ap (groups_in 0) (sym (take_more rows i z inside));
      few = omega (arith, few, p.few);
    }

pub numbering_group : (nodes₀ nodes nodes' : List Node) (count i groups groups' : ℕ) (z : Node) →
    count ≤ length nodes₀ → i < count → Numbering nodes₀ nodes count i groups → (get_or nodes i z).kind ≡ NODE_GROUP →
    nodes' ≡ set nodes i (record (get_or nodes i z) { group = groups + 1 }) → groups' ≡ groups + 1 →
    Numbering nodes₀ nodes' count (i + 1) groups'
numbering_group nodes₀ nodes nodes' count i groups groups' z capacity here p is put more =
    let r = get_or nodes i z in
    numbering_next nodes₀ nodes nodes' count i groups groups' z capacity here p
    (put ∙ ap (set nodes i) (sym (numbered_group groups r is))) (more ∙ sym (through_group groups r is))
    (omega (arith, more))

pub numbering_other : (nodes₀ nodes nodes' : List Node) (count i groups groups' : ℕ) (z : Node) →
    count ≤ length nodes₀ → i < count → Numbering nodes₀ nodes count i groups → (get_or nodes i z).kind ≢ NODE_GROUP →
    nodes' ≡ nodes → groups' ≡ groups → Numbering nodes₀ nodes' count (i + 1) groups'
numbering_other nodes₀ nodes nodes' count i groups groups' z capacity here p other same few =
    let r = get_or nodes i z in
    numbering_next nodes₀ nodes nodes' count i groups groups' z capacity here p
    (same ∙ sym (set-get_or nodes i z) ∙ ap (set nodes i) (sym (numbered_other groups r other)))
    (few ∙ sym (through_other groups r other)) (omega (arith, few))

pub numbering_ends : (nodes₀ nodes : List Node) (count i groups : ℕ) → count ≤ length nodes₀ → i ≡ count →
    Numbering nodes₀ nodes count i groups → nodes ≡ put_at nodes₀ 0 (numbered 0 (take count nodes₀))
numbering_ends nodes₀ nodes count i groups capacity end p =
    let rows = take count nodes₀ in
    let s = numbered 0 rows in
    let long : i ≡ length s =
    end ∙ sym (length-take-le count nodes₀ capacity) ∙ sym (numbered_length 0 rows) in
    p.nodes_are ∙ paste_all nodes₀ 0 s i long ∙ ap (λ k. s ++ drop (0 + k) nodes₀) long

-- rows that are written, and then get their numbers
pub rows_numbered : (d d' d'' rs : List Node) (n : ℕ) → n ≡ length rs → d' ≡ put_at d 0 rs →
    d'' ≡ put_at d' 0 (numbered 0 (take n d')) → d'' ≡ put_at d 0 (numbered 0 rs)
rows_numbered d d' d'' rs n size put numbers =
    let rest = drop (0 + length rs) d in
    let front : take n d' ≡ rs =
    ap (take n) put ∙ take-append-le n rs rest (omega (arith, size)) ∙ take_all n rs (omega (arith, size)) in
    let long : 0 + length (numbered 0 rs) ≡ length rs = omega (arith, numbered_length 0 rs) in
    let after : drop (0 + length (numbered 0 rs)) d' ≡ rest =
    ap (drop (0 + length (numbered 0 rs))) put ∙ ap (λ k. drop k (rs ++ rest)) long ∙ drop-append_seam rs rest in
    let same : rest ≡ drop (0 + length (numbered 0 rs)) d = ap (λ k. drop k d) (omega (arith, long)) in
    numbers ∙ ap (λ l. put_at d' 0 (numbered 0 l)) front
    ∙ ap (λ l. numbered 0 rs ++ l) (after ∙ same)
