-- The text of a leaf is read as that leaf, whatever follows.
use Rattle.std.proofs.Common.{◌≡◌, ℕ, ◌+◌, ◌/◌, ◌%◌, ◌<◌, ◌≤◌, Bool, true, false, ◌&&◌, ◌==◌, [], ◌∷◌, ◌++◌}
use Rattle.std.proofs.Common.{codes, Option, Some, refl, sym, ap, ◌∙◌, subst, append-nil, if◌then◌else◌, drop}
use Rattle.std.proofs.Math.Bool.{beq}
use Rattle.std.proofs.lemmas.Bool.{cond-true, cond-false, cond_both, and_parts, and_from}
use Prim.Native.Char.{code}
use Rattle.fancy_lex.specs.Boundary.{unnamed_boundary}
use Rattle.fancy_lex.specs.BoundarySteps.{boundary, named_boundary, name}
use Rattle.fancy_lex.specs.Characters.{is_among, metacharacters}
use Rattle.fancy_lex.specs.Class.{upper_hex_digit}
use Rattle.fancy_lex.specs.Escape.{escape, escape_at, lone_escape}
use Rattle.fancy_lex.specs.Escaped as escaped
use Rattle.fancy_lex.specs.Escaped.{Escape}
use Rattle.fancy_lex.specs.LayoutSteps.{layout, layout_from, is_layout, rest}
use Rattle.fancy_lex.specs.Reading.{gives, choose}
use Rattle.fancy_lex.specs.Text.{Text}
use Rattle.fancy_lex.specs.declared.escape.Assertion.{Assertion}
use Rattle.fancy_lex.specs.declared.escape.Assertion.TheVariants.{StartText, EndText, EndTextIgnoreTrailingNewlines}
use Rattle.fancy_lex.specs.declared.escape.Assertion.TheVariants.{StartLine, StartLineOniguruma, EndLine}
use Rattle.fancy_lex.specs.declared.escape.Assertion.TheVariants.{LeftWordBoundary, RightWordBoundary}
use Rattle.fancy_lex.specs.declared.flags.Flags.{Flags}
use Rattle.fancy_lex.specs.ErrorTable.{unknown_verb}
use Rattle.fancy_grammar.specs.Depth.{max_depth}
use Rattle.fancy_grammar.specs.Verb.{verb_at}
use Rattle.fancy_grammar.specs.declared.kinds.BacktrackingControlVerb.{BacktrackingControlVerb}
use Rattle.fancy_grammar.specs.declared.kinds.BacktrackingControlVerb.TheVariants.{Fail, Accept, Commit, Skip, Prune}
use Rattle.fancy_pattern.proofs.PatternLaws.Groups.{paren_at, question_at}
use Rattle.fancy_grammar.specs.AtomStart.{error_start, read, atom_start, leaf_node, leaf_outcome, start_anchor, end_anchor}
use Rattle.fancy_grammar.specs.Grammar.{atom, a_read, one_branch, branch, stop}
use Rattle.fancy_grammar.specs.Label as label
use Rattle.fancy_grammar.specs.Label.{Leaf}
use Rattle.fancy_grammar.specs.GroupInfo.{GroupInfo}
use Rattle.fancy_grammar.specs.Pattern.{Context, leaf_text, parenthesized, verb_text}
use Rattle.fancy_grammar.specs.PatternLetters.{any_text, assertion_text, character}
use Rattle.fancy_grammar.specs.State.{done}
use Rattle.fancy_grammar.specs.Tree.{leaf, assertion}
use Rattle.fancy_grammar.proofs.Writable.{IsSource, an_escape, a_class}
use Rattle.fancy_grammar.proofs.ReadBack.ClearLemmas.{apart, not_open}
use Rattle.fancy_grammar.proofs.ReadBack.LeafLemmas.{escape_b, boundary_reads}
use Rattle.fancy_grammar.proofs.ReadBack.RuleLemmas.{st, leaf_at}
use Rattle.fancy_pattern.proofs.PatternLaws.Becomes.{Becomes}
use Rattle.fancy_pattern.proofs.PatternLaws.Characters.{Spells, itself, by_escape, CaseFits, character_spells}
use Rattle.fancy_pattern.proofs.PatternLaws.Characters.{reads_byte}
use Rattle.fancy_pattern.proofs.PatternLaws.Rules.{Begins, begins_by, not_layout, AtomAt, Follows}

abbrev pub some_verb : BacktrackingControlVerb → Text → Option (BacktrackingControlVerb × Text)
some_verb b v = Some (b, v)

-- ---- leaves and escapes

abbrev IsNoReference : Leaf → Type 0
IsNoReference (label.ast_node r position) = ⊥
IsNoReference _ = Unit {0}

leaf_becomes : (μ : GroupInfo) (s : Text) (c : ℕ) (l : Leaf) → IsNoReference l → Becomes μ s c (leaf l) (leaf l)
leaf_becomes μ s c (label.ast_node r position) k = absurd k
leaf_becomes μ s c l k = record { is = λ n u e. refl; count = refl; groups = tt }

pub reads_leaf : (μ : GroupInfo) (h : Context) (s v : Text) (l : Leaf) → IsNoReference l →
    atom_start h.depth (st h.flags s) ≡ read (done (leaf l) (st h.flags v)) → AtomAt μ h s v (leaf l)
reads_leaf μ h s v l k e = record { tree = leaf l; derives = atom e a_read; becomes = leaf_becomes μ s h.opened l k }

-- an escape that is this leaf
reads_escape : (μ : GroupInfo) (h : Context) (t v : Text) (e : Escape) (l : Leaf) → IsNoReference l →
    leaf_node e ≡ leaf l →
    escape h.flags false t ≡ gives e v → AtomAt μ h (code "\\" ∷ t) v (leaf l)
reads_escape μ h t v e l k same q =
    reads_leaf μ h (code "\\" ∷ t) v l k
    (leaf_at h.depth h.flags (code "\\") t refl refl
    ∙ ap (λ r. read (leaf_outcome leaf_node (st h.flags (code "\\" ∷ t)) r)) q
    ∙ ap (λ x. read (done x (st h.flags v))) same)

begins_escape : (x : Bool) (t : Text) → Begins x (code "\\" ∷ t)
begins_escape x t = begins_by x (code "\\") t refl refl refl refl

-- ---- characters

abbrev pub is_metacharacter : ℕ → Bool
is_metacharacter c = is_among c metacharacters

plain_leaf : (d : ℕ) (f : Flags) (c : ℕ) (v : Text) → is_metacharacter c ≡ false →
    atom_start d (st f (c ∷ v)) ≡ read (done (leaf (label.literal (c ∷ []) f.casei)) (st f v))
plain_leaf d f c v e =
    let is_not = apart is_metacharacter c e in
    leaf_at d f c v (is_not (code "(") refl)
    (rw (
      is_not (code "+") refl,
      is_not (code "*") refl,
      is_not (code "?") refl,
      is_not (code "|") refl,
      is_not (code ")") refl,
    ) refl)
    ∙ rw (
      is_not (code ".") refl,
      is_not (code "^") refl,
      is_not (code "$") refl,
      is_not (code "\\") refl,
      is_not (code "[") refl,
    ) refl

begins_plain : (x : Bool) (c : ℕ) (v : Text) → is_metacharacter c ≡ false → is_layout x c ≡ false → Begins x (c ∷ v)
begins_plain x c v e h =
    let is_not = apart is_metacharacter c e in
    record {
      clear = record {
        no_layout = not_layout x c v (not_open c v (is_not (code "(") refl)) h;
        no_quantifier =
            rw (is_not (code "?") refl, is_not (code "*") refl, is_not (code "+") refl, is_not (code "{") refl) refl;
      };
      goes = rw (is_not (code "|") refl, is_not (code ")") refl) refl;
    }

pub reads_spelled : (μ : GroupInfo) (h : Context) (casei : Bool) (c : ℕ) (t v : Text) → Spells h.flags casei c t →
    AtomAt μ h (t ++ v) v (leaf (label.literal (c ∷ []) casei))
reads_spelled μ h casei c t v (itself e m k) =
    reads_leaf μ h (c ∷ v) v (label.literal (c ∷ []) casei) tt
    (plain_leaf h.depth h.flags c v m
    ∙ ap (λ b. read (done (leaf (label.literal (c ∷ []) b)) (st h.flags v))) e)
reads_spelled μ h casei c t v (by_escape {t = w} e) =
    reads_escape μ h (w ++ v) v (escaped.literal c casei) (label.literal (c ∷ []) casei) tt refl (e v)

pub begins_spelled : (f : Flags) (casei : Bool) (c : ℕ) (t v : Text) → Spells f casei c t →
    Begins f.ignore_space (t ++ v)
begins_spelled f casei c t v (itself e m k) = begins_plain f.ignore_space c v m k
begins_spelled f casei c t v (by_escape {t = w} e) = begins_escape f.ignore_space (w ++ v)

-- ---- what a leaf's text is read as

-- before any text that is no name in braces
pub record LeafAt (μ : GroupInfo) (h : Context) (t : Text) (l : Leaf) : Type 0 where
  pub reads : (v : Text) → ((p : ℕ) (negated : Bool) →
      boundary h.flags.ignore_space p negated v ≡ gives (unnamed_boundary negated) v) → Follows μ (leaf l) v →
      AtomAt μ h (t ++ v) v (leaf l)
  pub begins : (v : Text) → Begins h.flags.ignore_space (t ++ v)

pub literal_at : (μ : GroupInfo) (h : Context) (casei : Bool) (c : ℕ) → CaseFits h.flags casei c →
    LeafAt μ h (character h.flags casei c ++ []) (label.literal (c ∷ []) casei)
literal_at μ h casei c k =
    let t = character h.flags casei c in
    let s = character_spells h.flags casei c k in
    subst (λ w. LeafAt μ h w (label.literal (c ∷ []) casei)) (sym (append-nil t)) (record {
      reads = λ v m _. reads_spelled μ h casei c t v s;
      begins = λ v. begins_spelled h.flags casei c t v s;
    })

pub byte_at : (μ : GroupInfo) (h : Context) (b : ℕ) → h.flags.unicode ≡ false → 0x80 ≤ b → b ≤ 0xFF →
    LeafAt μ h (code "\\" ∷ code "x" ∷ upper_hex_digit (b / 16) ∷ upper_hex_digit (b % 16) ∷ [])
    (label.literal_bytes (b ∷ []))
byte_at μ h b u l k = record {
  reads =
      λ v m _. reads_escape μ h _ v (escaped.literal_bytes b) (label.literal_bytes (b ∷ [])) tt refl
      (reads_byte false h.flags b v u l k);
  begins = λ v. begins_escape h.flags.ignore_space _;
}

-- ---- escapes of one letter

-- with a letter that is the whole escape
letter_at : (μ : GroupInfo) (h : Context) (c : ℕ) (e : Escape) (l : Leaf) → IsNoReference l → leaf_node e ≡ leaf l →
    ((v : Text) → escape h.flags false (c ∷ v) ≡ gives e v) → LeafAt μ h (code "\\" ∷ c ∷ []) l
letter_at μ h c e l k same q = record {
  reads = λ v m _. reads_escape μ h (c ∷ v) v e l k same (q v);
  begins = λ v. begins_escape h.flags.ignore_space (c ∷ v);
}

escape_K : (f : Flags) (v : Text) → escape f false (code "K" ∷ v) ≡ gives escaped.keep_out v
unfolding escape_at lone_escape
escape_K f v = refl

escape_G : (f : Flags) (v : Text) → escape f false (code "G" ∷ v) ≡ gives escaped.continue_from_previous_match_end v
unfolding escape_at lone_escape
escape_G f v = refl

escape_R : (f : Flags) (v : Text) → escape f false (code "R" ∷ v) ≡ gives (escaped.general_newline f.unicode) v
unfolding escape_at lone_escape
escape_R f v = refl

escape_O : (f : Flags) (v : Text) → escape f false (code "O" ∷ v) ≡ gives (escaped.any true true) v
unfolding escape_at lone_escape
escape_O f v = refl

escape_N : (f : Flags) (v : Text) → escape f false (code "N" ∷ v) ≡ gives (escaped.any false false) v
unfolding escape_at lone_escape
escape_N f v = refl

escape_A : (f : Flags) (v : Text) → escape f false (code "A" ∷ v) ≡ gives (escaped.assertion StartText) v
unfolding escape_at lone_escape
escape_A f v = refl

escape_z : (f : Flags) (v : Text) → escape f false (code "z" ∷ v) ≡ gives (escaped.assertion EndText) v
unfolding escape_at lone_escape
escape_z f v = refl

escape_Z : (f : Flags) (v : Text) →
    escape f false (code "Z" ∷ v) ≡ gives (escaped.assertion (EndTextIgnoreTrailingNewlines f.crlf)) v
unfolding escape_at lone_escape
escape_Z f v = refl

escape_left : (f : Flags) (v : Text) → f.oniguruma_mode ≡ false →
    escape f false (code "<" ∷ v) ≡ gives (escaped.assertion LeftWordBoundary) v
unfolding escape_at lone_escape
escape_left f v o =
    ap (λ b. gives (if b then escaped.literal (code "<") false else escaped.assertion LeftWordBoundary) v) o

escape_right : (f : Flags) (v : Text) → f.oniguruma_mode ≡ false →
    escape f false (code ">" ∷ v) ≡ gives (escaped.assertion RightWordBoundary) v
unfolding escape_at lone_escape
escape_right f v o =
    ap (λ b. gives (if b then escaped.literal (code ">") false else escaped.assertion RightWordBoundary) v) o

-- a leaf that holds nothing and is written as an escape of one letter
abbrev pub IsOfLetter : Leaf → Type 0
IsOfLetter label.keep_out = Unit {0}
IsOfLetter label.continue_from_previous_match_end = Unit {0}
IsOfLetter _ = ⊥

pub of_letter_at : (μ : GroupInfo) (h : Context) (l : Leaf) → IsOfLetter l → LeafAt μ h (leaf_text μ l h) l
of_letter_at μ h label.keep_out k = letter_at μ h (code "K") _ label.keep_out tt refl (escape_K h.flags)
of_letter_at μ h label.continue_from_previous_match_end k =
    letter_at μ h (code "G") _ label.continue_from_previous_match_end tt refl (escape_G h.flags)
of_letter_at μ h l k = absurd k

pub newline_at : (μ : GroupInfo) (h : Context) (u : Bool) → h.flags.unicode ≡ u →
    LeafAt μ h (codes "\\R") (label.general_newline u)
newline_at μ h u e =
    subst (λ u. LeafAt μ h (codes "\\R") (label.general_newline u)) e
    (letter_at μ h (code "R") _ (label.general_newline h.flags.unicode) tt refl (escape_R h.flags))

-- ---- one character

-- a character that is this leaf
alone_at : (μ : GroupInfo) (h : Context) (c : ℕ) (l : Leaf) → IsNoReference l →
    ((x : Bool) (v : Text) → Begins x (c ∷ v)) →
    ((v : Text) → atom_start h.depth (st h.flags (c ∷ v)) ≡ read (done (leaf l) (st h.flags v))) → LeafAt μ h (c ∷ []) l
alone_at μ h c l k b q = record {
  reads = λ v m _. reads_leaf μ h (c ∷ v) v l k (q v);
  begins = λ v. b h.flags.ignore_space v;
}

dot_at : (μ : GroupInfo) (h : Context) → LeafAt μ h (codes ".") (label.any h.flags.dotnl h.flags.crlf)
dot_at μ h =
    alone_at μ h (code ".") _ tt (λ x v. begins_by x (code ".") v refl refl refl refl)
    (λ v. leaf_at h.depth h.flags (code ".") v refl refl)

caret_at : (μ : GroupInfo) (h : Context) (a : Assertion) → start_anchor h.flags ≡ a →
    LeafAt μ h (codes "^") (label.assertion a)
caret_at μ h a e =
    alone_at μ h (code "^") _ tt (λ x v. begins_by x (code "^") v refl refl refl refl)
    (λ v. leaf_at h.depth h.flags (code "^") v refl refl
    ∙ ap (λ b. read (done (assertion b) (st h.flags v))) e)

dollar_at : (μ : GroupInfo) (h : Context) (a : Assertion) → end_anchor h.flags ≡ a →
    LeafAt μ h (codes "$") (label.assertion a)
dollar_at μ h a e =
    alone_at μ h (code "$") _ tt (λ x v. begins_by x (code "$") v refl refl refl refl)
    (λ v. leaf_at h.depth h.flags (code "$") v refl refl
    ∙ ap (λ b. read (done (assertion b) (st h.flags v))) e)

beq_is : (a b : Bool) → beq a b ≡ true → a ≡ b
beq_is true true e = refl
beq_is true false e = absurd cc
beq_is false true e = absurd cc
beq_is false false e = refl

-- a dot, if the flags agree with its fields
dot_is : (μ : GroupInfo) (h : Context) (a b : Bool) → beq h.flags.dotnl a && beq h.flags.crlf b ≡ true →
    LeafAt μ h (codes ".") (label.any a b)
dot_is μ h a b e =
    let (x, y) = and_parts _ _ e in
    subst (λ a. LeafAt μ h (codes ".") (label.any a b)) (beq_is h.flags.dotnl a x)
    (subst (λ b. LeafAt μ h (codes ".") (label.any h.flags.dotnl b)) (beq_is h.flags.crlf b y) (dot_at μ h))

-- if the fields differ, the flags agree with them
abbrev pub AnyFits : Flags → Bool → Bool → Type 0
AnyFits f true true = Unit {0}
AnyFits f false false = Unit {0}
AnyFits f a b = (f.dotnl ≡ a) × (f.crlf ≡ b)

beq_same : (a b : Bool) → a ≡ b → beq a b ≡ true
beq_same true b e = subst (λ b. beq true b ≡ true) e refl
beq_same false b e = subst (λ b. beq false b ≡ true) e refl

unlike_at : (μ : GroupInfo) (h : Context) (a b : Bool) (t : Text) → (h.flags.dotnl ≡ a) × (h.flags.crlf ≡ b) →
    LeafAt μ h (if beq h.flags.dotnl a && beq h.flags.crlf b then codes "." else t) (label.any a b)
unlike_at μ h a b t k =
    let e : beq h.flags.dotnl a && beq h.flags.crlf b ≡ true
    = and_from _ _ (beq_same h.flags.dotnl a k.0) (beq_same h.flags.crlf b k.1) in
    subst (λ t. LeafAt μ h t (label.any a b)) (sym (cond-true _ _ _ e)) (dot_is μ h a b e)

pub any_at : (μ : GroupInfo) (h : Context) (a b : Bool) → AnyFits h.flags a b →
    LeafAt μ h (any_text h.flags a b) (label.any a b)
any_at μ h true true k =
    cond_both (beq h.flags.dotnl true && beq h.flags.crlf true) _ _ (λ t. LeafAt μ h t (label.any true true))
    (λ e. dot_is μ h true true e) (λ e. letter_at μ h (code "O") _ (label.any true true) tt refl (escape_O h.flags))
any_at μ h false false k =
    cond_both (beq h.flags.dotnl false && beq h.flags.crlf false) _ _ (λ t. LeafAt μ h t (label.any false false))
    (λ e. dot_is μ h false false e) (λ e. letter_at μ h (code "N") _ (label.any false false) tt refl (escape_N h.flags))
any_at μ h true false k = unlike_at μ h true false (codes "\\O") k
any_at μ h false true k = unlike_at μ h false true (codes "\\N") k

-- ---- assertions

-- the flags that hold are those that the assertion was read under
abbrev pub AssertionFits : Flags → Assertion → Type 0
AssertionFits f (StartLine crlf) = (f.multi ≡ true) × (f.crlf ≡ crlf) × (f.oniguruma_mode ≡ false)
AssertionFits f (StartLineOniguruma crlf) = (f.multi ≡ true) × (f.crlf ≡ crlf) × (f.oniguruma_mode ≡ true)
AssertionFits f (EndLine crlf) = (f.multi ≡ true) × (f.crlf ≡ crlf)
AssertionFits f (EndTextIgnoreTrailingNewlines crlf) = f.crlf ≡ crlf
AssertionFits f _ = Unit {0}

word_start : (x : Bool) (p : ℕ) (v : Text) →
    boundary x p false (codes "{start}" ++ v) ≡ gives (escaped.assertion LeftWordBoundary) v
unfolding boundary named_boundary name layout_from
word_start true p v = refl
word_start false p v = refl

word_end : (x : Bool) (p : ℕ) (v : Text) →
    boundary x p false (codes "{end}" ++ v) ≡ gives (escaped.assertion RightWordBoundary) v
unfolding boundary named_boundary name layout_from
word_end true p v = refl
word_end false p v = refl

-- a boundary after its letter
boundary_at : (μ : GroupInfo) (h : Context) (t : Text) (a : Assertion) →
    ((v : Text) → ((p : ℕ) (negated : Bool) →
    boundary h.flags.ignore_space p negated v ≡ gives (unnamed_boundary negated) v) →
    escape h.flags false (t ++ v) ≡ gives (escaped.assertion a) v) → LeafAt μ h (code "\\" ∷ t) (label.assertion a)
boundary_at μ h t a q = record {
  reads = λ v m _. reads_escape μ h (t ++ v) v (escaped.assertion a) (label.assertion a) tt refl (q v m);
  begins = λ v. begins_escape h.flags.ignore_space (t ++ v);
}

pub assertion_at : (μ : GroupInfo) (h : Context) (a : Assertion) → AssertionFits h.flags a →
    LeafAt μ h (assertion_text h.flags a) (label.assertion a)
assertion_at μ h StartText k =
    cond_both h.flags.multi _ _ (λ t. LeafAt μ h t (label.assertion StartText))
    (λ e. letter_at μ h (code "A") _ (label.assertion StartText) tt refl (escape_A h.flags))
    (λ e. caret_at μ h StartText (cond-false _ _ _ e))
assertion_at μ h EndText k =
    cond_both h.flags.multi _ _ (λ t. LeafAt μ h t (label.assertion EndText))
    (λ e. letter_at μ h (code "z") _ (label.assertion EndText) tt refl (escape_z h.flags))
    (λ e. dollar_at μ h EndText (cond-false _ _ _ e))
assertion_at μ h (EndTextIgnoreTrailingNewlines crlf) k =
    subst (λ b. LeafAt μ h (codes "\\Z") (label.assertion (EndTextIgnoreTrailingNewlines b))) k
    (letter_at μ h (code "Z") _ (label.assertion (EndTextIgnoreTrailingNewlines h.flags.crlf)) tt refl
    (escape_Z h.flags))
assertion_at μ h (StartLine crlf) k =
    caret_at μ h (StartLine crlf) (cond-true _ _ _ k.0 ∙ (cond-false _ _ _ k.2 ∙ ap StartLine k.1))
assertion_at μ h (StartLineOniguruma crlf) k =
    caret_at μ h (StartLineOniguruma crlf) (cond-true _ _ _ k.0 ∙ (cond-true _ _ _ k.2 ∙ ap StartLineOniguruma k.1))
assertion_at μ h (EndLine crlf) k = dollar_at μ h (EndLine crlf) (cond-true _ _ _ k.0 ∙ ap EndLine k.1)
assertion_at μ h LeftWordBoundary k =
    cond_both h.flags.oniguruma_mode _ _ (λ t. LeafAt μ h t (label.assertion LeftWordBoundary))
    (λ e. boundary_at μ h (codes "b{start}") LeftWordBoundary
    (λ v m. escape_b h.flags _ ∙ word_start h.flags.ignore_space _ v))
    (λ e. letter_at μ h (code "<") _ (label.assertion LeftWordBoundary) tt refl (λ v. escape_left h.flags v e))
assertion_at μ h RightWordBoundary k =
    cond_both h.flags.oniguruma_mode _ _ (λ t. LeafAt μ h t (label.assertion RightWordBoundary))
    (λ e. boundary_at μ h (codes "b{end}") RightWordBoundary
    (λ v m. escape_b h.flags _ ∙ word_end h.flags.ignore_space _ v))
    (λ e. letter_at μ h (code ">") _ (label.assertion RightWordBoundary) tt refl (λ v. escape_right h.flags v e))
assertion_at μ h a k = boundary_at μ h (drop 1 (assertion_text h.flags a)) a (λ v m. boundary_reads h.flags a tt v m)

-- ---- verbs

verb_opening : (μ : GroupInfo) (h : Context) (t v : Text) (b : BacktrackingControlVerb) → h.depth + 1 < max_depth →
    verb_at (t ++ v) ≡ some_verb b v → AtomAt μ h (codes "(*" ++ (t ++ v)) v (leaf (label.verb b))
verb_opening μ h t v b l e =
    reads_leaf μ h _ v (label.verb b) tt
    (paren_at h.depth h.flags (code "*" ∷ (t ++ v)) l (begins_star h.flags.ignore_space)
    ∙ ap (λ o. choose o (λ p. read (done (leaf (label.verb p.0)) (st h.flags p.1)))
    (error_start (unknown_verb (code "*" ∷ (t ++ v))))) e)
  where
    begins_star : (x : Bool) → layout x (code "*" ∷ (t ++ v)) ≡ rest (code "*" ∷ (t ++ v))
    begins_star true = not_layout true (code "*") (t ++ v) refl refl
    begins_star false = not_layout false (code "*") (t ++ v) refl refl

begins_paren : (x : Bool) (c : ℕ) (t : Text) → (c == code "?") ≡ false → Begins x (code "(" ∷ c ∷ t)
begins_paren x c t e = begins_by x (code "(") (c ∷ t) (rw e refl) refl refl refl

verb_leaf : (μ : GroupInfo) (h : Context) (t : Text) (b : BacktrackingControlVerb) → h.depth + 1 < max_depth →
    ((v : Text) → verb_at (t ++ v) ≡ some_verb b v) → LeafAt μ h (codes "(*" ++ t) (label.verb b)
verb_leaf μ h t b l q = record {
  reads = λ v m _. verb_opening μ h t v b l (q v);
  begins = λ v. begins_paren h.flags.ignore_space (code "*") (t ++ v) refl;
}

pub fail_read : (v : Text) → verb_at (codes "FAIL)" ++ v) ≡ some_verb Fail v
unfolding verb_at
fail_read v = refl

pub accept_read : (v : Text) → verb_at (codes "ACCEPT)" ++ v) ≡ some_verb Accept v
unfolding verb_at
accept_read v = refl

pub commit_read : (v : Text) → verb_at (codes "COMMIT)" ++ v) ≡ some_verb Commit v
unfolding verb_at
commit_read v = refl

pub skip_read : (v : Text) → verb_at (codes "SKIP)" ++ v) ≡ some_verb Skip v
unfolding verb_at
skip_read v = refl

pub prune_read : (v : Text) → verb_at (codes "PRUNE)" ++ v) ≡ some_verb Prune v
unfolding verb_at
prune_read v = refl

pub verb_leaf_at : (μ : GroupInfo) (h : Context) (b : BacktrackingControlVerb) → h.depth + 1 < max_depth →
    LeafAt μ h (parenthesized (verb_text b)) (label.verb b)
verb_leaf_at μ h Fail l = verb_leaf μ h (codes "FAIL)") Fail l fail_read
verb_leaf_at μ h Accept l = verb_leaf μ h (codes "ACCEPT)") Accept l accept_read
verb_leaf_at μ h Commit l = verb_leaf μ h (codes "COMMIT)") Commit l commit_read
verb_leaf_at μ h Skip l = verb_leaf μ h (codes "SKIP)") Skip l skip_read
verb_leaf_at μ h Prune l = verb_leaf μ h (codes "PRUNE)") Prune l prune_read

-- ---- Delegates

pub source_at : (μ : GroupInfo) (h : Context) (s : Text) (casei : Bool) (t : Text) → IsSource h.flags s casei t →
    LeafAt μ h t (label.delegate s casei)
source_at μ h s casei t (an_escape {t = w} e) = record {
  reads = λ v m _. reads_escape μ h (w ++ v) v (escaped.delegate s casei) (label.delegate s casei) tt refl (e v);
  begins = λ v. begins_escape h.flags.ignore_space (w ++ v);
}
source_at μ h s casei t (a_class {t = w} same e) = record {
  reads =
      λ v m _. reads_leaf μ h (code "[" ∷ (w ++ v)) v (label.delegate s casei) tt
      (leaf_at h.depth h.flags (code "[") (w ++ v) refl refl
      ∙ ap (λ o. read (leaf_outcome (λ u. leaf (label.delegate u h.flags.casei)) (st h.flags (code "[" ∷ (w ++ v))) o))
      (e v)
      ∙ ap (λ b. read (done (leaf (label.delegate s b)) (st h.flags v))) same);
  begins = λ v. begins_by h.flags.ignore_space (code "[") (w ++ v) refl refl refl refl;
}

-- ---- clear

pub clear_at : (μ : GroupInfo) (h : Context) → h.depth + 1 < max_depth → LeafAt μ h (codes "(?~|)") label.clear
clear_at μ h l = record {
  reads =
      λ v m _. record {
        tree = leaf label.clear;
        derives =
            atom (question_at h.depth h.flags (codes "~|)" ++ v) l) (one_branch (branch (stop refl)) refl);
        becomes = leaf_becomes μ _ h.opened label.clear tt;
      };
  begins = λ v. begins_by h.flags.ignore_space (code "(") _ refl refl refl refl;
}
