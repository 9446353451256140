-- Texts that are escaped have no line end.
use Rattle.std.proofs.Common.{◌≡◌, ◌++◌, ◌==◌, ◌&&◌, if◌then◌else◌, ℕ, Bool, true, false, [], ◌∷◌, codes, refl, ap, append-nil, ◌∙◌}
use Rattle.std.proofs.lemmas.List.Concat.{flat_map-append, flat_map-cons}
use Rattle.std.proofs.lemmas.List.Folds.{list_all-append}
use Prim.Native.Char.{code}
use Rattle.fancy_lex.specs.Text.{Text}
use Rattle.pattern_reports.specs.WorkflowCommand.{escape, escaped, is_in_line}

-- texts one after the other have no line end where neither has one
pub in_line-append : (v w : Text) → is_in_line (v ++ w) ≡ (is_in_line v && is_in_line w)
in_line-append v w = list_all-append _ v w

-- a character that is neither, by the tests that are made
tested : (c : ℕ) (percent cr lf colon comma : Bool) → (c == code "\r") ≡ cr → (c == code "\n") ≡ lf →
    is_in_line (if percent then codes "%25" else if cr then codes "%0D" else if lf then codes "%0A"
    else if colon then codes "%3A" else if comma then codes "%2C" else c ∷ []) ≡ true
tested c true cr lf colon comma r n = refl
tested c false true lf colon comma r n = refl
tested c false false true colon comma r n = refl
tested c false false false true comma r n = refl
tested c false false false false true r n = refl
tested c false false false false false r n = rw (r, n) refl

one_escaped : (is_property : Bool) (c : ℕ) → is_in_line (escape is_property c) ≡ true
one_escaped is_property c = tested c _ _ _ _ _ refl refl

pub in_line-escaped : (is_property : Bool) (w : Text) → is_in_line (escaped is_property w) ≡ true
in_line-escaped is_property [] = refl
in_line-escaped is_property (c ∷ w) =
    ap is_in_line (flat_map-cons (escape is_property) c w)
    ∙ in_line-append (escape is_property c) (escaped is_property w)
    ∙ rw (one_escaped is_property c) (in_line-escaped is_property w)

-- a character more
pub escaped-snoc : (is_property : Bool) (w : Text) (c : ℕ) →
    escaped is_property (w ++ c ∷ []) ≡ escaped is_property w ++ escape is_property c
escaped-snoc is_property w c =
    flat_map-append (escape is_property) w (c ∷ [])
    ∙ ap (λ (t : Text). escaped is_property w ++ t)
    (flat_map-cons (escape is_property) c [] ∙ append-nil (escape is_property c))

pub ruleset line_steps = (
  in_line-append,
  in_line-escaped,
)
