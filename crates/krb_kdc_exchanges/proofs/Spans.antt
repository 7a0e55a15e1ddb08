-- The time that was found for a ticket is judged.
use Rattle.std.proofs.Common.{◌≡◌, ℕ, true, false, Option, Ok, Err, refl, ap, ◌∙◌}
use Rattle.asn1_leaves.specs.GeneralizedTime.{seconds_of}
use Rattle.krb_kdc_exchanges.specs.Times.{end_of, start_of}
use Rattle.krb_kdc_exchanges.specs.Requests.{IsSpan, is_ended, lasting_to}
use Rattle.krb_kdc_exchanges.specs.declared.span.Span.{Span}

module _ (lifetime moment : ℕ) (old : Option ℕ) (till : ℕ) (span : Span) (starts : seconds_of span.starttime ≡ start_of moment)
    (ends : seconds_of span.endtime ≡ end_of lifetime (seconds_of span.starttime) old till) where
  own : IsSpan lifetime moment old till span
  own = record { starts = starts; ends = ends ∙ ap (λ n. end_of lifetime n old till) starts }

  pub lasting_refused : is_ended span ≡ true → (lasting_to lifetime moment old till).gives (Err 11)
  lasting_refused ended = (span, own, rw ended refl)

  pub lasting_given : is_ended span ≡ false → (lasting_to lifetime moment old till).gives (Ok span)
  lasting_given lasts = (span, own, rw lasts refl)
