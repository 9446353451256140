-- Nodes that hold no branches, as they are printed.
use Rattle.std.proofs.Common.{◌≡◌, ℕ, ◌+◌, ◌<◌, Bool, true, false, not, ◌&&◌, ◌||◌, ◌==◌, [], ◌∷◌, map, Option, Some}
use Rattle.std.proofs.Common.{None, refl, ap, ◌∙◌, arith, ne_eqb, ◌++◌, codes, drop}
use Rattle.std.proofs.lemmas.Bool.{cond-false}
use Prim.Native.Char.{code}
use Rattle.fancy_lex.specs.Boundary.{unnamed_boundary}
use Rattle.fancy_lex.specs.BoundarySteps.{boundary, named_boundary, name}
use Rattle.fancy_lex.specs.Escape.{escape, escape_at, lone_escape, outside}
use Rattle.fancy_lex.specs.Escaped as escaped
use Rattle.fancy_lex.specs.LayoutSteps.{after_comment_start, layout_from}
use Rattle.fancy_lex.specs.Reading.{gives}
use Rattle.fancy_lex.specs.Text.{Text, bytes, reach_of}
use Rattle.fancy_lex.specs.declared.escape.Assertion.{Assertion}
use Rattle.fancy_lex.specs.declared.escape.Assertion.TheVariants.{StartText, EndText, EndTextIgnoreTrailingNewlines}
use Rattle.fancy_lex.specs.declared.escape.Assertion.TheVariants.{StartLine, StartLineOniguruma, EndLine}
use Rattle.fancy_lex.specs.declared.escape.Assertion.TheVariants.{LeftWordBoundary, LeftWordHalfBoundary}
use Rattle.fancy_lex.specs.declared.escape.Assertion.TheVariants.{RightWordBoundary, RightWordHalfBoundary}
use Rattle.fancy_lex.specs.declared.escape.Assertion.TheVariants.{WordBoundary, NotWordBoundary}
use Rattle.fancy_lex.specs.declared.flags.Flags.{Flags}
use Rattle.fancy_grammar.specs.Depth.{max_depth}
use Rattle.fancy_lex.specs.FlagLetters.{flag_group as scoped}
use Rattle.fancy_lex.specs.LetterSteps.{letters}
use Rattle.fancy_grammar.specs.Quote.{after_backslash, needs_backslash}
use Rattle.fancy_grammar.specs.State as states
use Rattle.fancy_grammar.specs.AtomStart.{read, atom_start, leaf_node, leaf_outcome}
use Rattle.fancy_grammar.specs.Normal.{normal_character, unicode_flags}
use Rattle.fancy_grammar.specs.Printed.{assertion_text}
use Rattle.fancy_grammar.specs.State.{done}
use Rattle.fancy_grammar.specs.Tree.{Tree, any, assertion}
use Rattle.fancy_grammar.specs.Over.{is_at_line}
use Rattle.fancy_grammar.proofs.ReadBack.Nest.{one_if}
use Rattle.fancy_grammar.proofs.ReadBack.InFront.{put_as, put_quotes, put_any, put_line, put_assertion}
use Rattle.fancy_grammar.proofs.ReadBack.ClearLemmas.{begins_quantifier, Clear, not_open, clear_close, ends_close}
use Rattle.fancy_grammar.proofs.ReadBack.ClearLemmas.{apart, after_none}
use Rattle.fancy_grammar.proofs.ReadBack.CountTexts.{NoName}
use Rattle.fancy_grammar.proofs.ReadBack.RuleLemmas.{Kept, kept_unicode, st, AtomAs, WholeAs, Run, no_run, run_chain}
use Rattle.fancy_grammar.proofs.ReadBack.RuleLemmas.{reads_piece, reads_branch, reads_only, join_one, reads_flag_group}
use Rattle.fancy_grammar.proofs.ReadBack.RuleLemmas.{flag_group_at, one_letter, two_letters, spelled, last_letter}
use Rattle.fancy_grammar.proofs.ReadBack.RuleLemmas.{more_letters, reads_leaf, leaf_at, reads_char}

-- the text of an atom, or of what begins with one
pub record Begins (s : Text) : Type 0 where
  pub clear : Clear s
  pub goes : states.ends s ≡ false

-- decided by the first characters
pub begins_by : {s : Text} → after_comment_start s ≡ None → begins_quantifier s ≡ false → states.ends s ≡ false → Begins s
begins_by e m g = record { clear = record { no_comment = e; no_quantifier = m }; goes = g }

-- a single atom in a group
pub whole_atom : (d : ℕ) (f : Flags) (s v : Text) (x : Tree) → Kept f → Begins s → AtomAs d f s (code ")" ∷ v) x →
    WholeAs d f s (code ")" ∷ v) x
whole_atom d f s v x k b a =
    reads_only d f s (code ")" ∷ v) x
    (reads_branch x (reads_piece d f s (code ")" ∷ v) x k b.goes b.clear.no_comment (clear_close v) a) (join_one x)
    (ends_close v).stops) (ends_close v)

-- ---- characters

pub begins_char : (c : ℕ) (v : Text) (o : Option ℕ) → after_backslash c ≡ o → Begins (put_as c o v)
begins_char c v None e =
    let is_not = apart needs_backslash c (after_none c e) in
    record {
      clear = record {
        no_comment = not_open c v (is_not (code "(") refl);
        no_quantifier =
            rw (is_not (code "?") refl, is_not (code "*") refl, is_not (code "+") refl, is_not (code "{") refl) refl;
      };
      goes = rw (is_not (code "|") refl, is_not (code ")") refl) refl;
    }
begins_char c v (Some x) e = begins_by refl refl refl

pub quotes_clear : (cs v : Text) → Clear v → Clear (put_quotes cs v)
quotes_clear [] v h = h
quotes_clear (c ∷ cs) v h = (begins_char c (put_quotes cs v) (after_backslash c) refl).clear

-- characters, if nothing that could apply to the last one follows
pub quotes_run : (d : ℕ) (f : Flags) (cs v : Text) → Kept f → Clear v →
    Run d f (put_quotes cs v) v (map (normal_character f.casei) cs)
quotes_run d f [] v k h = no_run d f v
quotes_run d f (c ∷ cs) v k h =
    let s = put_quotes cs v in
    let b = begins_char c s (after_backslash c) refl in
    run_chain (reads_piece d f (put_as c (after_backslash c) s) s (normal_character f.casei c) k b.goes
    b.clear.no_comment
    (quotes_clear cs v h) (reads_char d f c s (after_backslash c) refl)) (quotes_run d f cs v k h)

-- ---- the flags of a group that is printed for a leaf

-- `(?s:`
abbrev dotnl_flags : Bool → Flags
dotnl_flags u = record (unicode_flags u) { dotnl = true }

kept_dotnl : (u : Bool) → Kept (dotnl_flags u)
kept_dotnl u = record { no_space = refl; not_swapped = refl; not_oniguruma = refl }

-- `(?R-s:`
abbrev crlf_flags : Bool → Flags
crlf_flags u = record (unicode_flags u) { crlf = true }

kept_crlf : (u : Bool) → Kept (crlf_flags u)
kept_crlf u = record { no_space = refl; not_swapped = refl; not_oniguruma = refl }

-- `(?m:` or `(?Rm:`
abbrev multi_flags : Bool → Bool → Flags
multi_flags u crlf = record (unicode_flags u) { multi = true; crlf = crlf }

kept_multi : (u crlf : Bool) → Kept (multi_flags u crlf)
kept_multi u crlf = record { no_space = refl; not_swapped = refl; not_oniguruma = refl }

-- ---- any character

reads_dot : (d : ℕ) (f : Flags) (v : Text) → AtomAs d f (code "." ∷ v) v (any f.dotnl f.crlf)
reads_dot d f v =
    reads_leaf d f (code "." ∷ v) v (any f.dotnl f.crlf) (leaf_at d f (code ".") v refl refl) (record {
      is = λ n u c. refl;
      groups = tt;
    })

begins_dot : (v : Text) → Begins (code "." ∷ v)
begins_dot v = begins_by refl refl refl

minus_letters : (u : Bool) (s : Text) →
    letters (unicode_flags u) (code "R" ∷ code "-" ∷ code "s" ∷ code ":" ∷ s) ≡ gives (scoped (crlf_flags u)) s
unfolding bytes
minus_letters u s =
    let t = code "R" ∷ code "-" ∷ code "s" ∷ code ":" ∷ s in
    let g = crlf_flags u in
    let far : (bytes (code ":" ∷ s) + 1 == bytes t) ≡ false =
    ne_eqb (bytes (code ":" ∷ s) + 1) (bytes t) (omega arith) in
    let k = kept_crlf u in
    spelled 3 (unicode_flags u) t (scoped g) s
    (more_letters t false (unicode_flags u) t (kept_unicode u) refl 2 false g (code "-" ∷ code "s" ∷ code ":" ∷ s)
    (scoped g) s refl
    (more_letters t false g (code "-" ∷ code "s" ∷ code ":" ∷ s) k refl 1 true g (code "s" ∷ code ":" ∷ s)
    (scoped g) s refl
    (more_letters t true g (code "s" ∷ code ":" ∷ s) k refl 0 true g (code ":" ∷ s) (scoped g) s refl
    (last_letter t true g (code ":" ∷ s) k refl (scoped g) s (cond-false _ _ _ far)))))
    (omega arith)

pub reads_any : (d : ℕ) (u a b : Bool) (v : Text) → d + one_if (a || b) < max_depth →
    AtomAs d (unicode_flags u) (put_any a b v) v (any a (not a && b))
reads_any d u true b v l =
    let g = dotnl_flags u in
    reads_flag_group d (unicode_flags u) g (put_any true b v) (code "." ∷ code ")" ∷ v) v (any true false)
    (flag_group_at d (unicode_flags u) g (code "s" ∷ code ":" ∷ code "." ∷ code ")" ∷ v) (code "." ∷ code ")" ∷ v)
    (kept_unicode u) l refl refl
    (one_letter (unicode_flags u) g (code "s") (code "." ∷ code ")" ∷ v) (kept_unicode u)
    (kept_dotnl u) refl refl))
    (whole_atom (d + 1) g (code "." ∷ code ")" ∷ v) v (any true false) (kept_dotnl u) (begins_dot (code ")" ∷ v))
    (reads_dot (d + 1) g (code ")" ∷ v)))
reads_any d u false true v l =
    let g = crlf_flags u in
    reads_flag_group d (unicode_flags u) g (put_any false true v) (code "." ∷ code ")" ∷ v) v (any false true)
    (flag_group_at d (unicode_flags u) g (code "R" ∷ code "-" ∷ code "s" ∷ code ":" ∷ code "." ∷ code ")" ∷ v)
    (code "." ∷ code ")" ∷ v)
    (kept_unicode u) l refl refl
    (minus_letters u (code "." ∷ code ")" ∷ v)))
    (whole_atom (d + 1) g (code "." ∷ code ")" ∷ v) v (any false true) (kept_crlf u) (begins_dot (code ")" ∷ v))
    (reads_dot (d + 1) g (code ")" ∷ v)))
reads_any d u false false v l = reads_dot d (unicode_flags u) v

pub begins_any : (a b : Bool) (v : Text) → Begins (put_any a b v)
begins_any true b v = begins_by refl refl refl
begins_any false true v = begins_by refl refl refl
begins_any false false v = begins_dot v

-- ---- assertions

-- an anchor under MULTI in a group of its own
line_atom : (d c : ℕ) (u r : Bool) (v : Text) (x : Tree) → d + 1 < max_depth → Begins (c ∷ code ")" ∷ v) →
    AtomAs (d + 1) (multi_flags u r) (c ∷ code ")" ∷ v) (code ")" ∷ v) x →
    AtomAs d (unicode_flags u) (put_line c r v) v x
unfolding bytes
line_atom d c u false v x l b a =
    let g = multi_flags u false in
    reads_flag_group d (unicode_flags u) g (put_line c false v) (c ∷ code ")" ∷ v) v x
    (flag_group_at d (unicode_flags u) g (code "m" ∷ code ":" ∷ c ∷ code ")" ∷ v) (c ∷ code ")" ∷ v)
    (kept_unicode u) l refl refl
    (one_letter (unicode_flags u) g (code "m") (c ∷ code ")" ∷ v) (kept_unicode u)
    (kept_multi u false) refl refl))
    (whole_atom (d + 1) g (c ∷ code ")" ∷ v) v x (kept_multi u false) b a)
line_atom d c u true v x l b a =
    let g = multi_flags u true in
    reads_flag_group d (unicode_flags u) g (put_line c true v) (c ∷ code ")" ∷ v) v x
    (flag_group_at d (unicode_flags u) g (code "R" ∷ code "m" ∷ code ":" ∷ c ∷ code ")" ∷ v) (c ∷ code ")" ∷ v)
    (kept_unicode u) l refl refl
    (two_letters (unicode_flags u) (crlf_flags u) g (code "R") (code "m") (c ∷ code ")" ∷ v) (kept_unicode u)
    (kept_crlf u) (kept_multi u true) (omega arith) refl refl refl refl))
    (whole_atom (d + 1) g (c ∷ code ")" ∷ v) v x (kept_multi u true) b a)

-- an anchor, under the flags that it needs
anchor : (d : ℕ) (f : Flags) (c : ℕ) (v : Text) (a : Assertion) →
    atom_start d (st f (c ∷ v)) ≡ read (done (assertion a) (st f v)) →
    AtomAs d f (c ∷ v) v (assertion a)
anchor d f c v a e = reads_leaf d f (c ∷ v) v (assertion a) e (record { is = λ n u c. refl; groups = tt })

start_line : (d : ℕ) (u r : Bool) (v : Text) → d + 1 < max_depth →
    AtomAs d (unicode_flags u) (put_line (code "^") r v) v (assertion (StartLine r))
start_line d u r v l =
    let f = multi_flags u r in
    line_atom d (code "^") u r v (assertion (StartLine r)) l (record {
      clear = record { no_comment = refl; no_quantifier = refl };
      goes = refl;
    })
    (anchor (d + 1) f (code "^") (code ")" ∷ v) (StartLine r)
    (leaf_at (d + 1) f (code "^") (code ")" ∷ v) refl refl))

end_line : (d : ℕ) (u r : Bool) (v : Text) → d + 1 < max_depth →
    AtomAs d (unicode_flags u) (put_line (code "$") r v) v (assertion (EndLine r))
end_line d u r v l =
    let f = multi_flags u r in
    line_atom d (code "$") u r v (assertion (EndLine r)) l (record {
      clear = record { no_comment = refl; no_quantifier = refl };
      goes = refl;
    })
    (anchor (d + 1) f (code "$") (code ")" ∷ v) (EndLine r) (leaf_at (d + 1) f (code "$") (code ")" ∷ v) refl refl))

-- an escape that is an assertion
reads_assertion_escape : (d : ℕ) (u : Bool) (t v : Text) (a : Assertion) →
    escape (unicode_flags u) false t ≡ gives (escaped.assertion a) v →
    AtomAs d (unicode_flags u) (code "\\" ∷ t) v (assertion a)
reads_assertion_escape d u t v a e =
    reads_leaf d (unicode_flags u) (code "\\" ∷ t) v (assertion a)
    (leaf_at d (unicode_flags u) (code "\\") t refl refl
    ∙ ap (λ r. read (leaf_outcome leaf_node (st (unicode_flags u) (code "\\" ∷ t)) r)) e)
    (record { is = λ n u c. refl; groups = tt })

pub escape_b : (f : Flags) (v : Text) →
    escape f false (code "b" ∷ v) ≡ boundary f.ignore_space (reach_of (code "b" ∷ v) + 1) false v
unfolding escape_at lone_escape outside
escape_b f v = refl

escape_B : (f : Flags) (v : Text) →
    escape f false (code "B" ∷ v) ≡ boundary f.ignore_space (reach_of (code "B" ∷ v) + 1) true v
unfolding escape_at lone_escape outside
escape_B f v = refl

half_start : (x : Bool) (p : ℕ) (v : Text) →
    boundary x p false (codes "{start-half}" ++ v) ≡ gives (escaped.assertion LeftWordHalfBoundary) v
unfolding boundary named_boundary name layout_from
half_start true p v = refl
half_start false p v = refl

half_end : (x : Bool) (p : ℕ) (v : Text) →
    boundary x p false (codes "{end-half}" ++ v) ≡ gives (escaped.assertion RightWordHalfBoundary) v
unfolding boundary named_boundary name layout_from
half_end true p v = refl
half_end false p v = refl

-- a boundary whose text no flag changes
abbrev pub IsFlaglessBoundary : Assertion → Type 0
IsFlaglessBoundary WordBoundary = Unit {0}
IsFlaglessBoundary NotWordBoundary = Unit {0}
IsFlaglessBoundary LeftWordHalfBoundary = Unit {0}
IsFlaglessBoundary RightWordHalfBoundary = Unit {0}
IsFlaglessBoundary _ = ⊥

-- its text after the backslash, before a text that is no name in braces
pub boundary_reads : (f : Flags) (a : Assertion) → IsFlaglessBoundary a → (v : Text) →
    ((p : ℕ) (negated : Bool) → boundary f.ignore_space p negated v ≡ gives (unnamed_boundary negated) v) →
    escape f false (drop 1 (assertion_text a) ++ v) ≡ gives (escaped.assertion a) v
boundary_reads f WordBoundary h v m = escape_b f v ∙ m _ false
boundary_reads f NotWordBoundary h v m = escape_B f v ∙ m _ true
boundary_reads f LeftWordHalfBoundary h v m = escape_b f _ ∙ half_start f.ignore_space _ v
boundary_reads f RightWordHalfBoundary h v m = escape_b f _ ∙ half_end f.ignore_space _ v
boundary_reads f _ h v m = absurd h

left_escape : (u : Bool) (t : Text) →
    escape (unicode_flags u) false (code "<" ∷ t) ≡ gives (escaped.assertion LeftWordBoundary) t
unfolding escape_at lone_escape outside
left_escape u t = refl

right_escape : (u : Bool) (t : Text) →
    escape (unicode_flags u) false (code ">" ∷ t) ≡ gives (escaped.assertion RightWordBoundary) t
unfolding escape_at lone_escape outside
right_escape u t = refl

-- the assertion that is read back
abbrev pub read_assertion : Assertion → Tree
read_assertion (StartLineOniguruma crlf) = assertion (StartLine crlf)
read_assertion a = assertion a

abbrev pub HasText : Assertion → Type 0
HasText (EndTextIgnoreTrailingNewlines crlf) = ⊥
HasText _ = Unit {0}

pub reads_assertion : (d : ℕ) (u : Bool) (a : Assertion) (v : Text) → HasText a →
    d + one_if (is_at_line a) < max_depth → NoName v →
    AtomAs d (unicode_flags u) (put_assertion a v) v (read_assertion a)
reads_assertion d u StartText v h l m = anchor d (unicode_flags u) (code "^") v StartText
    (leaf_at d (unicode_flags u) (code "^") v refl refl)
reads_assertion d u EndText v h l m = anchor d (unicode_flags u) (code "$") v EndText
    (leaf_at d (unicode_flags u) (code "$") v refl refl)
reads_assertion d u (EndTextIgnoreTrailingNewlines crlf) v h l m = absurd h
reads_assertion d u (StartLine crlf) v h l m = start_line d u crlf v l
reads_assertion d u (StartLineOniguruma crlf) v h l m = start_line d u crlf v l
reads_assertion d u (EndLine crlf) v h l m = end_line d u crlf v l
reads_assertion d u LeftWordBoundary v h l m =
    reads_assertion_escape d u (code "<" ∷ v) v LeftWordBoundary (left_escape u v)
reads_assertion d u RightWordBoundary v h l m =
    reads_assertion_escape d u (code ">" ∷ v) v RightWordBoundary (right_escape u v)
reads_assertion d u a v h l m =
    reads_assertion_escape d u (drop 1 (assertion_text a) ++ v) v a (boundary_reads (unicode_flags u) a tt v m)

begins_line : (c : ℕ) (r : Bool) (v : Text) → Begins (put_line c r v)
begins_line c false v = begins_by refl refl refl
begins_line c true v = begins_by refl refl refl

pub begins_assertion : (a : Assertion) (v : Text) → HasText a → Begins (put_assertion a v)
begins_assertion (EndTextIgnoreTrailingNewlines crlf) v h = absurd h
begins_assertion (StartLine crlf) v h = begins_line (code "^") crlf v
begins_assertion (StartLineOniguruma crlf) v h = begins_line (code "^") crlf v
begins_assertion (EndLine crlf) v h = begins_line (code "$") crlf v
begins_assertion _ v h = begins_by refl refl refl
