use Rattle.std.proofs.Common.{ℕ, List, true, ◌≡◌, ◌<◌, ◌^◌, length, ap, sym, subst, ◌∙◌}
use Rattle.byte_streams.proofs.Exits.{at-exit}
use Rattle.krb_file_formats.specs.Numbers.{be32}
use Rattle.asn1_leaves.specs.CharSets.{is_general_string}
use Rattle.krb_file_formats.proofs.WritingLaws.{refusal-of, fits-name, fits-of, body-put}
use Rattle.krb_file_formats.proofs.writing.body_of.Goals as goal

pub returns-in_err-put_name : goal.returns-in_err-put_name
returns-in_err-put_name c =
    at-exit _ _ _ _ c.from_residual.ensures.1
    (refusal-of _ (fits-name c.args.one.now c.as_bytes.result.now c.components.result.now (c.as_bytes.ensures.value ∙ c.realm.ensures) c.components.ensures)
    c.in_err-put_name.ensures)

pub returns-in_err-put_counted : goal.returns-in_err-put_counted
returns-in_err-put_counted c =
    at-exit _ _ _ _ c.from_residual-in_err-put_counted.ensures.1
    (refusal-of _ (λ fits. subst (λ (l : List ℕ). length l < 2 ^ 16) (sym c.key_octets.ensures) fits.key) c.in_err-put_counted.ensures)

pub returns : goal.returns
returns c =
    let e = c.args.one.now in
    let realm = c.as_bytes.ensures.value ∙ c.realm.ensures in
    let general : is_general_string e.realm ≡ true = subst (λ (l : List ℕ). is_general_string l ≡ true) c.realm.ensures c.as_bytes.ensures.character_set in (
      body-put e c.as_bytes.result.now c.components.result.now c.key_octets.result.now _ _ _ _ _ _ c.new-body.ensures.items realm c.components.ensures
          c.in_ok-put_name.ensures.0 c.in_ok-put_fixed.ensures.put c.key_octets.ensures c.in_ok-put_counted.ensures.0
          c.in_ok-extend_from_slice.ensures.items (c.u32_be_bytes.ensures ∙ ap be32 c.kvno.ensures),
      fits-of e c.as_bytes.result.now c.components.result.now c.key_octets.result.now realm c.components.ensures c.key_octets.ensures c.in_ok-put_name.ensures.1 general
          c.in_ok-put_fixed.ensures.fit c.in_ok-put_counted.ensures.1,
      c.in_ok-put_fixed.ensures.fit.3,
    )
