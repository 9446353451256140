-- The functions that loop in the grammar's premises agree with the relations.
use Rattle.std.proofs.Common.{subst}
use Rattle.fancy_lex.proofs.BoundaryRelation.{boundary_reads, boundary_is}
use Rattle.fancy_lex.proofs.ClassLaws.{class_is, class_reads}
use Rattle.fancy_lex.proofs.LayoutLaws.{layout_sound, layout_complete, unclosed_sound, unclosed_complete}
use Rattle.fancy_lex.specs.Boundary.{Boundary}
use Rattle.fancy_lex.specs.Class.{OuterClass}
use Rattle.fancy_lex.proofs.LetterRelation.{flag_group_reads, flag_group_is}
use Rattle.fancy_lex.specs.FlagLetters.{GroupLetters}
use Rattle.fancy_grammar.specs.Premises.{LayoutIsRelated, ClassIsRelated, LettersAreRelated, BoundaryIsRelated}

pub layout_related : LayoutIsRelated
layout_related x t = (
  λ v. (layout_sound x t v, layout_complete x t v),
  λ p. (unclosed_sound x t p, unclosed_complete x t p),
)

pub class_related : ClassIsRelated
class_related f t o = (λ e. subst (OuterClass f t) e (class_reads f t), λ h. class_is f t o h)

pub letters_related : LettersAreRelated
letters_related f t o = (λ e. subst (GroupLetters f t) e (flag_group_reads f t), λ h. flag_group_is f t h)

pub boundary_related : BoundaryIsRelated
boundary_related x p negated t o =
    (λ e. subst (Boundary x p negated t) e (boundary_reads x p negated t), λ h. boundary_is x p negated h)
