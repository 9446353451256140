use Rattle.std.proofs.Common.{◌≡◌, Bool, false, Decides, chars, subst, sym, ◌∙◌}
use Rattle.std.proofs.lemmas.Bool.{false≢true}
use Rattle.fancy_lex.specs.Flags.{flags_of}
use Rattle.fancy_grammar.specs.ReadAs.{IsReadAs}
use Rattle.fancy_grammar.proofs.ReadAsLaws.{read_as, read_as_only}
use Rattle.fancy_syntax.specs.View.{view}
use Rattle.fancy_pattern.proofs.WritesLemmas.{ok_then}
use Rattle.fancy_pattern.proofs.same.is_read_as.Goals as goal

decides_false : {Q : Type 0} (b : Bool) → b ≡ false → (Q → ⊥) → Decides b Q
decides_false b e f = (λ h. absurd (false≢true (sym e ∙ h)), λ q. absurd (f q))

pub returns-in-Ok : goal.returns-in-Ok
returns-in-Ok c = (
  λ e.
      let same = c.is_same_but_for_positions.ensures.0 e in
      subst (IsReadAs (flags_of c.args.flags) (chars c.args.text.now) (view c.args.tree.now.expr)) same.1
      (read_as _ _ _ _ _ c.in-Ok.ensures.tree.found same.0),
  λ r. c.is_same_but_for_positions.ensures.1 (read_as_only _ _ _ _ _ _ c.in-Ok.ensures.tree.found r),
)

pub returns-in-Err : goal.returns-in-Err
returns-in-Err c =
    ok_then _ _ _ (c.is_read_after.ensures (flags_of c.args.flags) (chars c.args.text.now) c.in-Err.ensures.error.error)
    (λ b found. decides_false b found.0 (λ r. found.1 r.0 _ r.1.is))
