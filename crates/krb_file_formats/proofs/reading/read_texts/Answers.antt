use Rattle.std.proofs.Common.{ℕ, ◌+◌, ◌-◌, List, [], ◌∷◌, ◌++◌, length, Ok, ap, sym, ◌∙◌, inl, inr, arith}
use Rattle.byte_streams.proofs.Exits.{at-exit}
use Rattle.krb_file_formats.specs.Entries.{texts_size}
use Rattle.krb_file_formats.specs.Reading.{followed, texts_at}
use Rattle.krb_file_formats.proofs.LoopLaws.{followed-join, texts-left, size-step}
use Rattle.krb_file_formats.proofs.reading.read_texts.Goals as goal

pub returns-in_err-text-clause-exact : goal.returns-in_err-text-clause-exact
returns-in_err-text-clause-exact c =
    at-exit _ _ _ _ c.from_residual.ensures.1
    (elim c.in_err-text.ensures.exact [
      | inl memory ↦ inl memory
      | inr wrong ↦ inr (sym c.loop.invariant.told ∙ ap (followed c.loop.texts.items)
          (texts-left (c.args.count - c.loop.counter) (c.args.count - (c.loop.counter + 1)) c.loop.end c.args.front.now _ (omega (arith, c.loop-test.true)) wrong))
    ])

pub loop-preserved : goal.loop-preserved
loop-preserved c =
    let left = c.args.count - (c.loop.counter + 1) in
    let text = c.in_ok-text.text in
    let long = ap (λ (l : List ℕ). length l) c.as_bytes.ensures.value in
    let texts = c.loop.texts.items in
    let rest = texts_at left (c.loop.end + (2 + length text)) c.args.front.now in
    let size = size-step texts text in
    let grown = c.in_ok-keep_text.ensures in
    let grown_size = ap texts_size grown in
    let so_far = c.loop.invariant.end in
    record {
      told =
          ap (λ (l : List (List ℕ)). followed l (texts_at left (c.loop.end + (2 + length c.as_bytes.result.now)) c.args.front.now)) grown
          ∙ ap (λ (l : List ℕ). followed (texts ++ text ∷ []) (texts_at left (c.loop.end + (2 + length l)) c.args.front.now)) c.as_bytes.ensures.value
          ∙ followed-join texts (text ∷ []) rest ∙ ap (followed texts)
          (sym (texts-left (c.args.count - c.loop.counter) left c.loop.end c.args.front.now (Ok text) (omega (arith, c.loop-test.true)) c.in_ok-text.ensures.exact))
          ∙ c.loop.invariant.told;
      end = omega (arith, long, size, grown_size, so_far);
    }
