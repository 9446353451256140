-- Rows of what no node has, written one after another.
use Rattle.std.proofs.Common.{◌≡◌, ℕ, ◌+◌, ◌<◌, ◌≤◌, List, length, map, set, get_or, ap, sym, subst, ◌∙◌, zero-add}
use Rattle.std.proofs.Common.{arith}
use Rattle.std.proofs.Math.Seq.{paste}
use Rattle.std.proofs.lemmas.List.{length-map, get_or-map}
use Rattle.std.proofs.lemmas.List.Edits.{paste_more}
use Rattle.fancy_lex.specs.declared.flags.Flags.{Flags}
use Rattle.fancy_grammar.specs.GroupInfo.{GroupInfo}
use Rattle.fancy_grammar.specs.Promises.{AreParsedTrivia}
use Rattle.fancy_grammar.specs.Tree.{Tree}
use Rattle.fancy_grammar.specs.Trivia as grammar
use Rattle.fancy_syntax.specs.TriviaViews.{trivium_of}
use Rattle.fancy_syntax.specs.declared.trivium.Trivium.{Trivium}
use Rattle.fancy_c.specs.CallResult.{IsTreeOfBytes}
use Rattle.fancy_c.specs.TriviumRows.{row, AreTriviaOfBytes}
use Rattle.fancy_c.specs.declared.trivia.TriviumRow.{TriviumRow}

pub rows_count : (l : List Trivium) → length (map row (map trivium_of l)) ≡ length l
rows_count l = length-map (map trivium_of l) row ∙ length-map l trivium_of

-- one more row
pub trivium_put : (rows rows' : List TriviumRow) (l : List Trivium) (i : ℕ) (z : Trivium) (x : TriviumRow) →
    x ≡ row (trivium_of (get_or l i z)) → rows' ≡ paste rows 0 (map row (map trivium_of l)) i → length l ≤ length rows →
    i < length l → set rows' i x ≡ paste rows 0 (map row (map trivium_of l)) (i + 1)
trivium_put rows rows' l i z x is put capacity here =
    let s = map row (map trivium_of l) in
    let size = rows_count l in
    let at : get_or s i (row (trivium_of z)) ≡ row (trivium_of (get_or l i z)) =
    get_or-map row (map trivium_of l) i (trivium_of z) (row (trivium_of z)) (omega (arith, here, length-map l trivium_of))
    ∙ ap row (get_or-map trivium_of l i z (trivium_of z) here) in
    ap (λ d. set d i x) put
    ∙ ap (λ y. set (paste rows 0 s i) i y) (is ∙ sym at)
    ∙ ap (λ k. set (paste rows 0 s i) k (get_or s i (row (trivium_of z)))) (sym (zero-add i))
    ∙ paste_more rows 0 s i (row (trivium_of z)) (omega (arith, here, capacity)) (omega (arith, size, here))

pub trivia_of_bytes : {f : Flags} {text bytes : List ℕ} {t : Tree} {m : GroupInfo} {l : List grammar.Trivium} → text ≡ bytes →
    IsTreeOfBytes f bytes t m → AreParsedTrivia f text l → AreTriviaOfBytes f bytes l
trivia_of_bytes {f} {text} {bytes} {t} {m} {l} is tree trivia =
    record { tree = (t, m, tree); parsed = subst (λ b. AreParsedTrivia f b l) is trivia }
