-- An empty comment separates a reference in digits from a digit after it.
use Rattle.std.proofs.Common.{◌≡◌, ℕ, ◌<◌, ◌^◌, Bool, true, List, ◌∷◌, ◌++◌, codes, decimal, refl, sym}
use Rattle.std.proofs.Common.{◌∙◌, subst, append_assoc}
use Rattle.std.proofs.lemmas.Bool.{cond-true, false≢true}
use Prim.Native.Char.{code}
use Rattle.fancy_lex.specs.Text.{Text, bytes}
use Rattle.fancy_lex.specs.declared.flags.Flags.{Flags}
use Rattle.fancy_grammar.specs.Label as label
use Rattle.fancy_grammar.specs.GroupInfo.{GroupInfo}
use Rattle.fancy_grammar.specs.Pattern.{Context, under, after, written, is_in_digits}
use Rattle.fancy_grammar.specs.PatternNeeds.{settled, inline_flags}
use Rattle.fancy_grammar.specs.Tree.{Tree, leaf}
use Rattle.fancy_grammar.specs.declared.precedence.Precedence.TheVariants.{Piece}
use Rattle.fancy_grammar.proofs.PatternDepth.{MaySet, Fits}
use Rattle.fancy_grammar.proofs.Writable.{AreNodesWritable}
use Rattle.fancy_grammar.proofs.OutcomeLemmas.{piece_as}
use Rattle.fancy_pattern.proofs.PatternLaws.Groups.{inline_flags_rest}
use Rattle.fancy_pattern.proofs.PatternLaws.References.{digits_atom, begins_reference}
use Rattle.fancy_pattern.proofs.PatternLaws.Rules.{Clear, Rest, lead_piece, quants_one, quant_past, comment_passed}

module _ (μ : GroupInfo) where
  -- before an empty comment, the text of the tree is a piece that ends after the comment
  abbrev pub LeadsPast : Context → Tree → Type 0
  LeadsPast h t =
      (u w : Text) (k : Flags) (ys : List Tree) → Clear h.flags.ignore_space u → Rest μ (after t Piece h) u k w ys →
      Rest μ h (written μ t Piece h ++ (codes "(?#)" ++ u)) k w (t ∷ ys)

  digits_lead : (h : Context) (n : ℕ) (casei : Bool) → μ.numeric_capture_group_references ≡ true → n < 2 ^ 64 →
      MaySet (settled h.flags (leaf (label.backref n casei))) h →
      LeadsPast h (leaf (label.backref n casei))
  digits_lead h n casei e small d u w k ys c q =
      let t = leaf (label.backref n casei) in
      let g = settled h.flags t in
      let i = under g h in
      let v = codes "(?#)" ++ u in
      let s = code "\\" ∷ decimal n in
      let b = begins_reference h.flags.ignore_space (decimal n ++ v) in
      let a = digits_atom μ i n e small v refl in
      let piece = piece_as b.clear.no_layout a.derives
      (quants_one i.depth (bytes (s ++ v)) i.flags a.tree a.tree v u c
      (quant_past (bytes (s ++ v)) i.flags a.tree v u
      (comment_passed i.flags.ignore_space u ∙ c.no_layout) c.no_quantifier)) in
      subst (λ z. Rest μ h ((inline_flags h.flags g ++ z) ++ v) k w (t ∷ ys)) (sym (cond-true _ _ _ e))
      (subst (λ z. Rest μ h z k w (t ∷ ys)) (sym (append_assoc (inline_flags h.flags g) s v))
      (inline_flags_rest μ h g.casei g.multi g.dotnl g.crlf (s ++ v) w k (t ∷ ys) d b
      (lead_piece μ i (s ++ v) u w k a.tree t ys b refl a.becomes piece q)))

  pub leads_past : (f : Flags) (c : ℕ) (t : Tree) → AreNodesWritable f μ c t → is_in_digits μ t ≡ true → (h : Context) →
      Fits t Piece h → LeadsPast h t
  leads_past f c (leaf (label.backref n casei)) k e h d = digits_lead h n casei e k d.0
  leads_past f c _ k e h d = absurd (false≢true e)
