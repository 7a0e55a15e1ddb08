use Rattle.std.proofs.Common.{◌≡◌, ℕ, ◌+◌, ◌-◌, ◌<◌, ◌==◌, Bool, false, List, ◌∷◌, length, get_or, set, drop, refl, sym, subst, ◌∙◌, arith}
use Rattle.std.proofs.lemmas.List.{drop_more, get_or_default}
use Rattle.krb_account_texts.specs.Patterns.{IsRow}
use Rattle.krb_account_texts.proofs.Rows.{IsPut, put-at, put-first, put-last, value-at}
use Rattle.krb_account_texts.proofs.patterns.put_mark.Goals as goal

-- what is read of a row inside it
read-at : (row : List Bool) (i : ℕ) (x : Bool) → x ≡ get_or row i x → i < length row → x ≡ get_or row i false
read-at row i x is inside = is ∙ get_or_default row i x false inside

pub loop-index-init : goal.loop-index-init
loop-index-init c =
    let row : List Bool = c.args.row.now.items in
    let text : List ℕ = c.args.name.now in
    let mark : ℕ = get_or c.args.marks.now c.args.place 0 in
    let rest : List ℕ = drop (c.args.place + 1) c.args.marks.now in
    let size = c.requires.known.size in
    let behind = read-at row (length text) c.index-behind.result.now c.index-behind.ensures (omega arith) in
    subst (λ (value : Bool). IsPut mark rest text (set row (length text) value) (length text) c.index-behind.result.now) (sym c.fits_end.ensures)
    (put-last mark rest text row c.index-behind.result.now c.requires.known behind)

pub loop-index-preserved : goal.loop-index-preserved
loop-index-preserved c =
    let row : List Bool = c.loop-index.row.items in
    let text : List ℕ = c.args.name.now in
    let mark : ℕ = get_or c.args.marks.now c.args.place 0 in
    let rest : List ℕ = drop (c.args.place + 1) c.args.marks.now in
    let i : ℕ = c.loop-index.index - 1 in
    let above = c.loop-index-test.true in
    let few = c.loop-index.auto.index in
    let next : c.loop-index.index ≡ i + 1 = omega arith in
    let inside : i < length text = omega arith in
    let is : IsPut mark rest text row (i + 1) c.loop-index.behind = subst (λ (k : ℕ). IsPut mark rest text row k c.loop-index.behind) next c.loop-index.invariant in
    let size = is.size in
    let at_here = read-at row i c.index-here.result.now c.index-here.ensures (omega arith) in
    let at_next = read-at row (i + 1) c.index-next.result.now c.index-next.ensures (omega arith) in
    put-at mark rest text row i c.loop-index.behind c.index-here.result.now c.fits.result is inside at_here
    (c.fits.ensures ∙ value-at mark rest text row i c.loop-index.behind is inside c.index-here.result.now c.index-next.result.now at_here at_next (mark == 42) refl)

pub returns : goal.returns
returns c =
    let marks : List ℕ = c.args.marks.now in
    let text : List ℕ = c.args.name.now in
    let mark : ℕ = get_or marks c.args.place 0 in
    let rest : List ℕ = drop (c.args.place + 1) marks in
    let row : List Bool = c.loop-index.row.items in
    let ended = c.loop-index-test.false in
    let none : c.loop-index.index ≡ 0 = omega arith in
    let split : drop c.args.place marks ≡ mark ∷ rest = drop_more marks c.args.place 0 c.requires.inside in
    subst (λ (pattern : List ℕ). IsRow pattern text row) (sym split)
    (put-first mark rest text row c.loop-index.behind (subst (λ (k : ℕ). IsPut mark rest text row k c.loop-index.behind) none c.loop-index.invariant))
