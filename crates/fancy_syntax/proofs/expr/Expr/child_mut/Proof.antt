-- `child_mut` passes itself on to `lend_child`, at the same lifetime. The borrow checker proves no loan at the lender's
-- own type, and `lend_child` is proved for any two types. So only the call is proved here.
use mathlib.Core.Path.{refl}
use mathlib.Core.List.{[], ◌∷◌}
use mir.Syntax.{named, w64}
use mir.Raw.{raw as raw_ty}
use base.Fraction.{full_share}
use base.Fml.{Lft, ftrue, flft}
use base.Logic.{ent, sep, emp, id⊢}
use types.Logic.{sem}
use types.Kit.{‵, raw, ◌⊛◌, some, later, ◌$◌, ◌∵◌, !, qed, move, keep, drop, use0, use1, use2, split, join, pick, await}
use types.Kit.{suffices, group, done}
use types.Run.{enter, addr, stop, no_more, and_then, returns}
use types.ByLocal.{alloc_all, pass_all, free_all, look_at, get, through, sets, lands_as}
use contract.Monad.{fact, fact_i}
use contract.BorrowLft.{◌⊑◌, ⊑_static}
use contract.Running.{tables}
use denote.Builtin.{usize}
use denote.Exit.{yes, no}
use denote.Laws.{Is, shows}
use denote.Param.{arg, layout}
use denote.Param.Laws.{Laws, arg_laws, of_field, row_shared}
use denote.Param.Shared.{mut_ref_shared}
use denote.Plain.{uint_vals, uint_Tells}
use denote.RattleType.{RattleType, Valss, owns}
use denote.Ref.{MutRef, MutBor, NamedLft, mut_vals, mut_Tells}
use denote.Signature.{plain, types_at}
use denote.Steps.{nothing, peeks}
use denote.Struct.Field.{mut_ref_field}
use denote.Struct.Laws.{mut_ref_laws}
use denote.Triple.Call.{calls_at}
use denote.Triple.Clauses.{Lasts, lasts, at_exit}
use denote.Triple.Spec.{triple_of}
use denote.Triple.Table.{framed}
use denote.Triple.Walked.{Stays, stay_dropped, ends_at, Goes-spent_ref, Goes-dropped}
use Rattle.std.proofs.raw_atomic.Walks.{proved}
use Rattle.std.specs.Prelude.{Option}
use Rattle.std.specs.contracts.option.Option as option
use Rattle.std.proofs.option.Option.TheLaws.{the_row_laws as option-laws}
use Rattle.fancy_syntax.specs.contracts.expr.Expr.child_mut as f
use Rattle.fancy_syntax.proofs.expr.Expr.child_mut.Statement.{statement}
use Rattle.fancy_syntax.proofs.expr.Expr.child_mut.Code as code
use Rattle.fancy_syntax.specs.contracts.expr.parent.lend_child as g
use Rattle.fancy_syntax.proofs.expr.parent.lend_child.Met.{met}
use Rattle.fancy_syntax.specs.contracts.expr.Expr.{the_row as R}
use Rattle.fancy_syntax.proofs.expr.Expr.TheLaws.{the_row_laws}
use Rattle.fancy_syntax.specs.contracts.expr.child_mut.ExprParent.TheImpl as impl
use Rattle.fancy_syntax.proofs.expr.child_mut.ExprParent.TheImpl.Met.{passed}

-- the type as an argument of the call, with its laws
abbrev A : RattleType
A = arg (raw_ty (layout R)) no R

A-laws : Laws A
A-laws = arg_laws (raw_ty (layout R)) no R the_row_laws refl

-- the result's type
abbrev Out : Lft → RattleType
Out κ = option.the_row (MutRef (named 0) κ R)

Out-laws : (κ : Lft) → Laws (Out κ)
Out-laws κ =
    let a : NamedLft = record { mir = named 0; lft = κ } in
    option-laws (MutRef (named 0) κ R)
    (of_field (mut_ref_field a R tt) (mut_ref_laws a R tt) refl (mut_ref_shared a R tt (row_shared R the_row_laws)))

abbrev stayed : Stays f.ended.signature.params f.ended.kept
stayed = (stay_dropped _ no, (stay_dropped _ yes, tt))

pub child_mut_spec : {M : Type 1} → statement M
child_mut_spec {M} 𝓤 𝓛 𝓜 𝓡 wired =
    let c = f.clauses 𝓛 𝓜.mem 𝓡.returns in
    proved 𝓛 f.ended stayed c 𝓜 𝓡 (
      Goes-spent_ref 𝓛 1 (0 ∷ []) tt (plain (λ _. R)),
      (Goes-dropped 𝓛 1 (plain (λ _. usize)) yes (λ κs x w. refl), tt),
    )
    f.Key.name code.function (code.unfolded 𝓤 𝓛.H 𝓜 𝓡 wired)
    (λ κs. (mut_vals, (uint_vals w64, tt))) (λ κs. (mut_Tells (named 0) κs.0 R, (uint_Tells w64, tt)))
    (λ κs qs bounds a _ are.
    let κ = κs.0 in let q = qs.0 in let vss : Valss (types_at f.signature.params κs) =
    (mut_vals a.0, (uint_vals w64 a.1.0, tt)) in
    let G = triple_of 𝓛 (g.signature A A) (g.spec A A impl.ghosts impl.dict 𝓛 𝓜.mem 𝓡.returns) in
    let z : G.Ghost =
    (((κ, ([], ([], tt))), (q, (full_share, (full_share, tt))), (⊑_static κ, (⊑_static κ, tt)), a, vss), tt) in
    let Owns = owns (types_at f.signature.params κs) a vss in
    let goes : ent 𝓤 (sep 𝓤 (sem 𝓛 (flft κ q)) (sem 𝓛 Owns)) (G.pre z) =
    qed 𝓛 (‵ (flft κ q) ∷ ‵ Owns ∷ []) ∵
    nothing ! $ use0 𝓛 (raw (fact 𝓤 ([] ⊑ A.lives))) (fact_i 𝓤 _ (emp 𝓤) (⊑_static [])) $ join ! $
    use0 𝓛 (raw (fact 𝓤 ([] ⊑ A.lives))) (fact_i 𝓤 _ (emp 𝓤) (⊑_static [])) $ join ! $
    nothing ! $ use0 𝓛 (‵ (flft [] full_share)) (𝓛.lfts.lft-nil full_share) $ join ! $
    use0 𝓛 (‵ (flft [] full_share)) (𝓛.lfts.lft-nil full_share) $ join ! $
    move ! (2 ∷ 0 ∷ []) $ join ! $ move ! (0 ∷ 2 ∷ []) $ join ! $ join ! $ done ! in
    qed 𝓛 (((‵ (flft κ q) ⊛ ‵ ftrue) ⊛ ‵ Owns) ∷ ‵ ftrue ∷ []) ∵
    split ! $ split ! $ keep ! (0 ∷ 2 ∷ []) $
    enter ! _ _ _ _ _ $ alloc_all ! (λ l. pass_all ! refl ((tt, tt), ((tt, record { fits = are.1.0.1 }), tt)) $
    sets ! (addr ! (through ! refl (stop !))) refl (tt, tt) $
    use2 𝓛 (raw (G.pre z)) goes $
    calls_at ! (framed 𝓤 𝓛.H 𝓜 (tables 𝓤 𝓛.H 𝓜 𝓡 𝓡.env)) G
    (met 𝓤 𝓛 𝓜 𝓡 (code.calls-fancy_syntax::expr::parent::lend_child 𝓡.env wired) A A A-laws A-laws impl.ghosts impl.dict
    (passed 𝓡.env (code.calls-fancy_syntax::expr::child_mut::ExprParent::has_list 𝓡.env wired)
    (code.calls-fancy_syntax::expr::child_mut::ExprParent::list_mut 𝓡.env wired)
    (code.calls-fancy_syntax::expr::child_mut::ExprParent::box_mut 𝓡.env wired) M 𝓤 𝓛 𝓜 𝓡)) z
    (and_then ! (get ! refl) (and_then ! (get ! refl) (no_more !))) (λ v.
    use1 𝓛 (later
    (some (λ (r : Option (MutBor R.Denot)).
    ((‵ (flft κ q) ⊛ ‵ (flft [] full_share) ⊛ ‵ (flft [] full_share) ⊛ ‵ ftrue) ⊛ ‵ ((Out κ).own_val r (v ∷ []))) ⊛
    some (λ (ws : Lasts f.ended κs a). ‵ (lasts f.ended κs a ws) ⊛ raw
    ((c κs a).ensures tt r (at_exit f.ended κs a ws)))))) (id⊢ 𝓤 _) $
    await ! tt $ pick ! (λ r. split ! $ split ! $ split ! $ move ! (2 ∷ []) $
    -- [the result; the token; the tokens of `'static`; the clauses]
    peeks ! (Out κ) (Is (Out κ)) (shows 𝓛 (Out κ)) r (v ∷ []) (λ is.
    lands_as ! refl refl (((Out-laws κ).lawful 𝓛).typed r (v ∷ []) is).0 $
    returns ! (look_at ! 0 refl) $ free_all ! refl $
    move ! (3 ∷ []) $ pick ! (λ ws. split ! $ drop ! $ move ! (3 ∷ []) $ drop ! $
    -- [the clauses; the result; the token]
    suffices ! _ (ends_at 𝓛 f.ended stayed c ((κs, qs, bounds, a, vss), tt) v r ws (tt, (tt, tt))) $
    nothing ! $ nothing ! $ join ! $ nothing ! $ join ! $ move ! (0 ∷ 2 ∷ []) $ nothing ! $ move ! (4 ∷ 0 ∷ []) $ join !
    $ group ! 3 $ done !))))))
