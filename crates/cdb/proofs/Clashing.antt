-- Neighbours that clash.
use Rattle.std.proofs.Common.{◌≡◌, inl, inr, ℕ, ◌-◌, ◌<◌, List, length, get_or, Bool, true, false, Equal, Greater, is_gt, nat_cmp, nat_eq, sym, ap, subst, ◌∙◌, arith}
use Rattle.std.specs.Bool.{OnFalse}
use Rattle.std.specs.Cmp.Lexicographic.{pointwise, slice_cmp}
use Rattle.std.proofs.lemmas.List.{get_or_read}
use Rattle.cdb.specs.declared.records.Record.{Record}
use Rattle.cdb.specs.Writing.{Clash}
use Rattle.cdb.proofs.Answering.{itself}
use Rattle.cdb.proofs.Searching.{tied_keys}

pub comes_before : (one next : Record) (key : List ℕ) → key ≡ next.key.items → Greater ≡ slice_cmp nat_cmp one.key.items key → Clash one next
comes_before one next key key_is greater = inl (ap is_gt (ap (slice_cmp nat_cmp one.key.items) (sym key_is) ∙ sym greater))

pub other_content : (one next : Record) (key a b : List ℕ) (same : Bool) → key ≡ next.key.items → Equal ≡ slice_cmp nat_cmp one.key.items key → a ≡ one.content.items → b ≡ next.content.items
    → same ≡ pointwise nat_eq a b → OnFalse same (Clash one next)
other_content one next key a b true key_is equal a_is b_is is = tt
other_content one next key a b false key_is equal a_is b_is is =
    inr (tied_keys one.key.items key (sym equal) ∙ key_is, λ contents. itself a b (a_is ∙ contents ∙ sym b_is) (sym is))

pub clash_at : (records : List Record) (index : ℕ) (one next : Record) (same : Bool) → 0 < index → index < length records → one ≡ get_or records (index - 1) one → next ≡ get_or records index next
    → OnFalse same (Clash one next) → OnFalse same ((d : Record) → Clash (get_or records (index - 1) d) (get_or records index d))
clash_at records index one next true some lt one_is next_is h = tt
clash_at records index one next false some lt one_is next_is h = λ d.
    subst (λ (r : Record). Clash r (get_or records index d)) (get_or_read records (index - 1) one (omega (arith, some, lt)) one_is d)
    (subst (Clash one) (get_or_read records index next lt next_is d) h)
