-- The tree of a text is one whose text reads back; and this is what is written for each character.
use Rattle.std.proofs.Common.{◌≡◌, ℕ, ◌+◌, ◌<◌, ◌++◌, Bool, true, false, not, ◌&&◌, ◌||◌, List, [], ◌∷◌, is_some}
use Rattle.std.proofs.Common.{Option, Some, None, IfSome, IfNone}
use Rattle.std.proofs.Common.{filter, filter_map, map, nat_le, nat_lt, codes, refl, sym, ap, ◌∙◌, subst, arith, ⊎_elim}
use Rattle.std.proofs.Common.{append_assoc, append-nil, if◌then◌else◌, chars, rules}
use Rattle.std.proofs.Math.Bool.{and-false}
use Rattle.std.proofs.lemmas.Bool.{and_parts, or_cases, false≢true}
use Rattle.std.proofs.lemmas.Bool.Decides.{nat_tests}
use Rattle.std.proofs.lemmas.List.{map-append}
use Rattle.std.proofs.lemmas.Str.{chars-nil}
use Rattle.std.specs.List.{list_any, flat_map}
use Rattle.std.specs.Prelude.{find, String, string_bytes, encode_utf8_all}
use Rattle.std.specs.declared.alloc.Global.{Global}
use Rattle.fancy_lex.specs.Characters.{is_among, ◌∈◌, metacharacters}
use Rattle.fancy_lex.specs.Escape.{letter_of}
use Rattle.fancy_lex.specs.Text.{Text, text_of}
use Rattle.fancy_lex.specs.declared.flags.Flags.{Flags}
use Rattle.fancy_grammar.specs.Depth.{max_depth}
use Rattle.fancy_grammar.specs.GroupInfo.{GroupInfo, ascending}
use Rattle.fancy_grammar.specs.Label as label
use Rattle.fancy_grammar.specs.ParsedTree.{group_referred, groups_referred, is_call_node, has_call}
use Rattle.fancy_grammar.specs.Pattern.{Context, group_count, group_count_all, pattern_text, written, written_all}
use Rattle.fancy_grammar.specs.PatternLetters.{character, is_printable_layout}
use Rattle.fancy_grammar.specs.PatternNeeds.{no_needs, needs_case, is_kept_by_backslash, leaf_needs, both, joined, needs_all}
use Rattle.fancy_grammar.specs.PatternNeeds.{fixed_or, with_needs, settled, agreed, inline_flags}
use Rattle.fancy_grammar.specs.Preorder.{preorder, preorder_all}
use Rattle.fancy_grammar.specs.Ranks.{only_named}
use Rattle.fancy_grammar.specs.ReadAs.{IsReadAs}
use Rattle.fancy_grammar.specs.ReadBack.{info_of_groups}
use Rattle.fancy_grammar.specs.Tree.{Tree, literal, trees_of}
use Rattle.fancy_grammar.specs.declared.needs.Need.{Need}
use Rattle.fancy_grammar.specs.declared.needs.Need.TheVariants.{Free, Fixed, Torn}
use Rattle.fancy_grammar.specs.declared.needs.Needs.{Needs}
use Rattle.fancy_grammar.specs.declared.precedence.Precedence.TheVariants.{Whole, Piece}
use Rattle.fancy_grammar.proofs.PatternDepth.{Fits, FitAll}
use Rattle.fancy_grammar.proofs.ReadBack.ClearLemmas.{no_more, also, each_among}
use Rattle.fancy_grammar.proofs.Writable.{IsWritable, ArePieces, info_of, info_openings, is_numbered, is_numbered_call_of_all}
use Rattle.fancy_pattern.proofs.PatternLaws.Needed.{no_inline_flags}
use Rattle.fancy_pattern.proofs.PatternLaws.Suited.{IsMet, AreMet, none_met}
use Rattle.fancy_pattern.proofs.PatternLaws.Theorem.{reads_back}
use Rattle.fancy_syntax.specs.View.{view, views}
use Rattle.fancy_syntax.specs.declared.expr.Expr.{Expr, the_lemmas}
use Rattle.fancy_syntax.specs.declared.expr.Expr.TheVariants.{Literal}
use Rattle.fancy_c.specs.EscapedText.{is_escaped, is_caseless, escape_of, literal_of, tree_of_text, IsEscapeOf}
use Rattle.fancy_c.proofs.NodeLemmas.{string_text}

-- ---- the literals of a text

abbrev literals : Flags → Text → List Tree
literals f w = map (literal_of f) w

all_groups : (f : Flags) (w : Text) → group_count_all (trees_of (literals f w)) ≡ 0
all_groups f [] = refl
all_groups f (c ∷ w) = omega (arith, all_groups f w)

listed : (f : Flags) (w : Text) → preorder_all (trees_of (literals f w)) ≡ literals f w
listed f [] = refl
listed f (c ∷ w) = ap (λ l. literal_of f c ∷ l) (listed f w)

referred : (f : Flags) (w : Text) → filter_map group_referred (literals f w) ≡ []
referred f [] = refl
referred f (c ∷ w) = referred f w

called : (f : Flags) (w : Text) → list_any is_call_node (literals f w) ≡ false
called f [] = refl
called f (c ∷ w) = called f w

numbered : (m : GroupInfo) (f : Flags) (w : Text) → list_any (is_numbered m) (literals f w) ≡ false
numbered m f [] = refl
numbered m f (c ∷ w) = numbered m f w

of_all : (m : GroupInfo) (f : Flags) (w : Text) → list_any (is_numbered_call_of_all m) (literals f w) ≡ false
of_all m f [] = refl
of_all m f (c ∷ w) = of_all m f w

pieces : (f : Flags) (m : GroupInfo) (n : ℕ) (w : Text) → ArePieces f m n (trees_of (literals f w))
pieces f m n [] = tt
pieces f m n (c ∷ w) = (tt, λ _. refl, pieces f m (n + 0) w)

-- ---- where no group is open, flags may be set before a literal

abbrev outside : Flags → ℕ → Context
outside g n = record { flags = g; opened = n; depth = 0 }

may_open : 0 + 1 < max_depth
may_open = omega arith

fits_whole : (f g : Flags) (n c : ℕ) → Fits (literal_of f c) Whole (outside g n)
fits_whole f g n c = (λ _. may_open, λ _. may_open)

fits_piece : (f g : Flags) (n c : ℕ) → Fits (literal_of f c) Piece (outside g n)
fits_piece f g n c = (λ _. may_open, λ _. may_open)

all_fit : (f g : Flags) (n : ℕ) (w : Text) → FitAll (trees_of (literals f w)) Piece (outside g n)
all_fit f g n [] = tt
all_fit f g n (c ∷ w) = (fits_piece f g n c, all_fit f (settled g (literal_of f c)) (n + 0) w)

-- ---- the group information of a tree without groups and references

abbrev pub no_groups : GroupInfo
no_groups = info_of_groups 0

unnamed : (f : Flags) → only_named f [] ≡ false
unnamed f = and-false f.ignore_numbered_groups

nothing_referred : (f : Flags) (t : Tree) → group_count t ≡ 0 → groups_referred t ≡ []
    → list_any (is_numbered no_groups) (preorder t) ≡ false → has_call t ≡ false
    → list_any (is_numbered_call_of_all no_groups) (preorder t) ≡ false
    → no_groups ≡ info_of f (info_openings no_groups 0 (group_count t)) t no_groups
nothing_referred f t count refers numeric calls all =
    let backrefs : [] ≡ ascending (filter (λ n. nat_le n 0) (groups_referred t))
    = ap (λ l. ascending (filter (λ n. nat_le n 0) l)) (sym refers) in
    let beyond : None ≡ find (λ n. nat_lt 0 n) (groups_referred t) = ap (find (λ n. nat_lt 0 n)) (sym refers) in
    let path : no_groups ≡ info_of f [] t no_groups = λ i. record {
      backrefs = backrefs i;
      named_groups = [];
      numeric_capture_group_references = sym numeric i;
      contains_subroutines = sym calls i;
      self_recursive = sym all i;
      total_groups = 0;
      out_of_range_backref = beyond i;
      numbered_groups_ignored = sym (unnamed f) i;
    } in
    subst (λ n. no_groups ≡ info_of f (info_openings no_groups 0 n) t no_groups) (sym count) path

-- ---- the tree of a text

writable : (f : Flags) (w : Text) → IsWritable f no_groups (tree_of_text f w)
writable f [] = record {
  group_info = nothing_referred f (tree_of_text f []) refl refl refl refl refl;
  names = tt;
  nodes = tt;
  fits = λ _. may_open;
}
writable f (c ∷ []) = record {
  group_info = nothing_referred f (tree_of_text f (c ∷ [])) refl refl refl refl refl;
  names = tt;
  nodes = tt;
  fits = fits_whole f (agreed f (tree_of_text f (c ∷ []))) 0 c;
}
writable f (c ∷ d ∷ w) =
    let l = c ∷ d ∷ w in
    record {
      group_info = nothing_referred f (tree_of_text f l) (all_groups f l)
          (ap (filter_map group_referred) (listed f l) ∙ referred f l)
          (ap (list_any (is_numbered no_groups)) (listed f l) ∙ numbered no_groups f l)
          (ap (list_any is_call_node) (listed f l) ∙ called f l)
          (ap (list_any (is_numbered_call_of_all no_groups)) (listed f l) ∙ of_all no_groups f l);
      names = tt;
      nodes = pieces f no_groups 0 l;
      fits = all_fit f (agreed f (tree_of_text f l)) 0 l;
    }

-- its text is read as the tree
always_read : (f : Flags) (t : Tree) (m : GroupInfo) (w : Text) → t ≡ tree_of_text f w → m ≡ no_groups →
    IsReadAs f (pattern_text f t m) t m
always_read f t m w is info =
    reads_back f t m
    (subst (λ n. IsWritable f n t) (sym info) (subst (λ u. IsWritable f no_groups u) (sym is) (writable f w)))

-- ---- what is written after a backslash keeps its case

among_letters : (c : ℕ) → is_some (letter_of c) ≡ true → is_among c (codes "\u{7}\u{c}\n\r\t\u{b}\u{1b}") ≡ true
among_letters c h = grind (arith, nat_tests)

letter_kept : (c : ℕ) → is_some (letter_of c) ≡ true → is_kept_by_backslash false c ≡ true
letter_kept c h =
    each_among (λ d. is_kept_by_backslash false d ≡ true) (codes "\u{7}\u{c}\n\r\t\u{b}\u{1b}") c
    (also refl (also refl (also refl (also refl (also refl (also refl (also refl no_more))))))) (among_letters c h)

character_kept : (c : ℕ) → is_among c (metacharacters ++ codes "]}") ≡ true → is_kept_by_backslash false c ≡ true
character_kept c h =
    each_among (λ d. is_kept_by_backslash false d ≡ true) (metacharacters ++ codes "]}") c
    (also refl (also refl (also refl (also refl (also refl (also refl (also refl (also refl (also refl (also refl (also
    refl
    (also refl (also refl (also refl no_more)))))))))))))) h

blank_kept : (x : Bool) (c : ℕ) → x && c ∈ " #" ≡ true → is_kept_by_backslash false c ≡ true
blank_kept true c h =
    each_among (λ d. is_kept_by_backslash false d ≡ true) (codes " #") c (also refl (also refl no_more)) h
blank_kept false c h = absurd (false≢true h)

-- what denotes itself after a backslash outside Oniguruma mode does so in it
kept_in : (o : Bool) (c : ℕ) → is_kept_by_backslash false c ≡ true → is_kept_by_backslash o c ≡ true
kept_in false c e = e
kept_in true c e = ap (λ b. b && true) (and_parts _ _ e).0

kept : (f : Flags) (c : ℕ) → is_escaped f c ≡ true → is_kept_by_backslash f.oniguruma_mode c ≡ true
kept f c e =
    kept_in f.oniguruma_mode c
    (⊎_elim
    (λ a. ⊎_elim (λ h. character_kept c h) (λ h. letter_kept c h)
    (or_cases (is_among c (metacharacters ++ codes "]}")) (is_some (letter_of c)) a))
    (λ h. blank_kept f.ignore_space c h)
    (or_cases (is_among c (metacharacters ++ codes "]}") || is_some (letter_of c)) (is_printable_layout f c) e))

-- ---- so the flags meet what the literals require, and none is set

caseless_from : (b e : Bool) → (b && not e) ≡ true → b ≡ true
caseless_from true e h = refl
caseless_from false e h = h

escaped_from : (b e : Bool) → (b && not e) ≡ false → b ≡ true → e ≡ true
escaped_from true true h k = refl
escaped_from true false h k = sym h
escaped_from false true h k = refl
escaped_from false false h k = k

is_false : (b : Bool) → (b ≡ true → false ≡ true) → b ≡ false
is_false true h = sym (h refl)
is_false false h = refl

met_if_kept : (f : Flags) (b : Bool) → (f.casei ≡ true → b ≡ true) →
    AreMet (if b && true then no_needs else needs_case false) f
met_if_kept f true h = none_met f
met_if_kept f false h = record { casei = sym (is_false f.casei h); multi = tt; dotnl = tt; crlf = tt }

met_if : (f : Flags) (c : ℕ) (b : Bool) → (b ≡ true → f.casei ≡ true) →
    (b ≡ false → f.casei ≡ true → is_kept_by_backslash f.oniguruma_mode c ≡ true) →
    AreMet (leaf_needs f.oniguruma_mode (label.literal (c ∷ []) b)) f
met_if f c true h k = record { casei = sym (h refl); multi = tt; dotnl = tt; crlf = tt }
met_if f c false h k = met_if_kept f (is_kept_by_backslash f.oniguruma_mode c) (k refl)

met : (f : Flags) (c : ℕ) → AreMet (leaf_needs f.oniguruma_mode (label.literal (c ∷ []) (is_caseless f c))) f
met f c =
    met_if f c (is_caseless f c) (caseless_from f.casei (is_escaped f c))
    (λ e on. kept f c (escaped_from f.casei (is_escaped f c) e on))

both_met : (a b : Need) (x : Bool) → IsMet a x → IsMet b x → IsMet (both a b) x
both_met Free b x h k = k
both_met (Fixed c) Free x h k = h
both_met (Fixed true) (Fixed true) x h k = h
both_met (Fixed false) (Fixed false) x h k = h
both_met (Fixed true) (Fixed false) x h k = absurd (false≢true (k ∙ sym h))
both_met (Fixed false) (Fixed true) x h k = absurd (false≢true (h ∙ sym k))
both_met (Fixed c) Torn x h k = absurd k
both_met Torn b x h k = absurd h

joined_met : (n m : Needs) (g : Flags) → AreMet n g → AreMet m g → AreMet (joined both n m) g
joined_met n m g h k = record {
  casei = both_met n.casei m.casei g.casei h.casei k.casei;
  multi = both_met n.multi m.multi g.multi h.multi k.multi;
  dotnl = both_met n.dotnl m.dotnl g.dotnl h.dotnl k.dotnl;
  crlf = both_met n.crlf m.crlf g.crlf h.crlf k.crlf;
}

all_met : (f : Flags) (w : Text) → AreMet (needs_all both f.oniguruma_mode (trees_of (literals f w))) f
all_met f [] = none_met f
all_met f (c ∷ w) = joined_met _ _ f (met f c) (all_met f w)

met_stays : (n : Need) (x : Bool) → IsMet n x → fixed_or x n ≡ x
met_stays Free x h = refl
met_stays (Fixed c) x h = h
met_stays Torn x h = absurd h

stay : (g : Flags) (n : Needs) → AreMet n g → with_needs g n ≡ g
stay g n m = λ i. record g {
  casei = met_stays n.casei g.casei m.casei i;
  multi = met_stays n.multi g.multi m.multi i;
  dotnl = met_stays n.dotnl g.dotnl m.dotnl i;
  crlf = met_stays n.crlf g.crlf m.crlf i;
}

agree : (f : Flags) (w : Text) → agreed f (tree_of_text f w) ≡ f
agree f [] = stay f no_needs (none_met f)
agree f (c ∷ []) = stay f _ (met f c)
agree f (c ∷ d ∷ w) = stay f _ (all_met f (c ∷ d ∷ w))

-- ---- what is written for each character

settle : (f : Flags) (c : ℕ) → settled f (literal_of f c) ≡ f
settle f c = stay f _ (met f c)

abbrev after_flags : Flags → ℕ → Flags → Text
after_flags f c g = inline_flags f g ++ (character g (is_caseless f c) c ++ [])

one_written : (f : Flags) (c : ℕ) → after_flags f c (settled f (literal_of f c)) ≡ escape_of f c ++ []
one_written f c =
    ap (after_flags f c) (settle f c) ∙ ap (λ l. l ++ (escape_of f c ++ [])) (no_inline_flags f)

written_whole : (f : Flags) (c : ℕ) → written no_groups (literal_of f c) Whole (outside f 0) ≡ escape_of f c ++ []
written_whole f c = one_written f c

written_piece : (f : Flags) (n c : ℕ) → written no_groups (literal_of f c) Piece (outside f n) ≡ escape_of f c
written_piece f n c = one_written f c ∙ append-nil (escape_of f c)

all_written : (f : Flags) (n : ℕ) (w : Text) →
    written_all no_groups false (trees_of (literals f w)) (outside f n) ≡ flat_map (escape_of f) w
all_written f n [] = refl
all_written f n (c ∷ w) =
    ap (λ l. l ++ written_all no_groups false (trees_of (literals f w)) (outside (settled f (literal_of f c)) (n + 0)))
    (written_piece f n c)
    ∙ ap (λ g. escape_of f c ++ written_all no_groups false (trees_of (literals f w)) (outside g (n + 0))) (settle f c)
    ∙ ap (λ l. escape_of f c ++ l) (all_written f (n + 0) w)

written_so : (f : Flags) (w : Text) → written no_groups (tree_of_text f w) Whole (outside f 0) ≡ flat_map (escape_of f) w
written_so f [] = refl
written_so f (c ∷ []) = written_whole f c
written_so f (c ∷ d ∷ w) = all_written f 0 (c ∷ d ∷ w)

escaped_text : (f : Flags) (w : Text) → pattern_text f (tree_of_text f w) no_groups ≡ flat_map (escape_of f) w
unfolding pattern_text
escaped_text f w =
    ap (λ g. inline_flags f g ++ written no_groups (tree_of_text f w) Whole (outside g 0)) (agree f w)
    ∙ ap (λ l. l ++ written no_groups (tree_of_text f w) Whole (outside f 0)) (no_inline_flags f) ∙ written_so f w

escape_returned : (f : Flags) (t : Tree) (m : GroupInfo) (w : Text) (s : String Global) → t ≡ tree_of_text f w →
    m ≡ no_groups → text_of s ≡ pattern_text f t m → IsReadAs f (text_of s) t m → IsEscapeOf f w (string_bytes s)
escape_returned f t m w s is info text reads = record {
  is = sym (string_text s) ∙ ap encode_utf8_all (text ∙ ap (λ u. pattern_text f u m) is
      ∙ ap (pattern_text f (tree_of_text f w)) info ∙ escaped_text f w);
  reads_as = subst (λ n. IsReadAs f (text_of s) (tree_of_text f w) n) info
      (subst (λ u. IsReadAs f (text_of s) u m) is reads);
}

-- ---- what is returned for the tree of a text under flags that are the same

pub never_none : (f g : Flags) (t : Tree) (m : GroupInfo) (w : Text) (o : Option (String Global)) → g ≡ f →
    t ≡ tree_of_text g w → m ≡ no_groups → o ≡ None → IfNone o (IsReadAs f (pattern_text f t m) t m → ⊥) → ⊥
never_none f g t m w o same is info none refuted =
    subst (λ p. IfNone p (IsReadAs f (pattern_text f t m) t m → ⊥)) none refuted
    (always_read f t m w (is ∙ ap (λ h. tree_of_text h w) same) info)

pub always_escape : (f g : Flags) (t : Tree) (m : GroupInfo) (w : Text) (o : Option (String Global)) (s : String Global) →
    g ≡ f → t ≡ tree_of_text g w → m ≡ no_groups → o ≡ Some s
    → IfSome o (λ r. text_of r ≡ pattern_text f t m) → IfSome o (λ r. IsReadAs f (text_of r) t m)
    → IsEscapeOf f w (string_bytes s)
always_escape f g t m w o s same is info some text reads =
    escape_returned f t m w s (is ∙ ap (λ h. tree_of_text h w) same) info
    (subst (λ p. IfSome p (λ r. text_of r ≡ pattern_text f t m)) some text)
    (subst (λ p. IfSome p (λ r. IsReadAs f (text_of r) t m)) some reads)

-- ---- the literal of a character is made of a string that was empty

pub literal_made : (f : Flags) (c : ℕ) (old new : String Global) (casei : Bool) → string_bytes old ≡ [] →
    text_of new ≡ text_of old ++ c ∷ [] → casei ≡ is_caseless f c → view (Literal new casei) ≡ literal_of f c
literal_made f c old new casei empty pushed case =
    let is : view (Literal new casei) ≡ literal (text_of new) casei = search (rules, the_lemmas) in
    let text : text_of new ≡ c ∷ [] = pushed ∙ ap (λ t. t ++ c ∷ []) (ap chars empty ∙ chars-nil) in
    is ∙ ap (λ t. literal t casei) text ∙ ap (λ b. literal (c ∷ []) b) case

-- ---- the literals that were made, and the rest of the text

pub literals_next : (f : Flags) (es new : List Expr) (e : Expr) (t rest all : Text) (c : ℕ) → new ≡ es ++ e ∷ [] →
    t ≡ c ∷ rest → view e ≡ literal_of f c → views es ++ map (literal_of f) t ≡ map (literal_of f) all
    → views new ++ map (literal_of f) rest ≡ map (literal_of f) all
literals_next f es new e t rest all c pushed is made so_far =
    ap (λ l. views l ++ literals f rest) pushed
    ∙ ap (λ l. l ++ literals f rest) (map-append view es (e ∷ []))
    ∙ append_assoc (views es) (view e ∷ []) (literals f rest)
    ∙ ap (λ u. views es ++ u ∷ literals f rest) made
    ∙ ap (λ v. views es ++ literals f v) (sym is) ∙ so_far
