use Rattle.std.proofs.Common.{inl, inr, refl, sym, ◌∙◌, subst}
use Rattle.std.specs.Bool.{MatchBool}
use Rattle.asn1_codec.specs.Named.{EndsInside}
use Rattle.asn1_codec.proofs.input_end.named.Goals as goal

pub returns-then-is_excuse : goal.returns-then-is_excuse
returns-then-is_excuse c = inl (sym c.is_excuse.ensures ∙ c.if-is_excuse.true, refl)

pub returns-then-ends_inside : goal.returns-then-ends_inside
returns-then-ends_inside c =
    inr (
      sym c.is_excuse.ensures ∙ c.if-is_excuse.false,
      inl (refl, subst (λ b. MatchBool b (EndsInside c.args.input.now) (EndsInside c.args.input.now → ⊥)) c.if-ends_inside.true c.ends_inside.ensures),
    )

pub returns : goal.returns
returns c =
    inr (
      sym c.is_excuse.ensures ∙ c.if-is_excuse.false,
      inr (
        c.as_final.ensures,
        subst (λ b. MatchBool b (EndsInside c.args.input.now) (EndsInside c.args.input.now → ⊥)) c.if-ends_inside.false c.ends_inside.ensures,
      ),
    )
