use Rattle.std.proofs.Common.{◌≡◌, ◌≢◌, ℕ, ◌^◌, ◌<◌, List, [], ◌∷◌, ◌++◌, sym, ap, ◌∙◌, append_assoc, arith, rules}
use Rattle.std.specs.Fmt.{decimal}
use Rattle.std.proofs.lemmas.Str.Pattern.{split_parts}
use Rattle.asn1_leaves.specs.ObjectIdentifier.{IsDotted}
use Rattle.asn1_leaves.proofs.DottedLemmas.{NoStop, dotted-push, dotted-pop, dotted-last, last-dotted}
use Rattle.asn1_leaves.proofs.dotted.read_arcs.Goals as goal

-- where the first part is no arc, the text is none of arcs
no_arc : (text part rest : List ℕ) → text ≡ part ++ 46 ∷ rest → NoStop part → ((n : ℕ) → n < 2 ^ 64 → decimal n ≢ part) → (arcs : List ℕ) → ¬ IsDotted arcs text
no_arc text part rest e none never [] dotted = let some = dotted.0 in omega arith
no_arc text part rest e none never (arc ∷ arcs) dotted = let parts = dotted-pop arc arcs text part rest e none dotted in never arc parts.0 parts.1

no_last : (text : List ℕ) → NoStop text → ((n : ℕ) → n < 2 ^ 64 → decimal n ≢ text) → (arcs : List ℕ) → ¬ IsDotted arcs text
no_last text none never [] dotted = let some = dotted.0 in omega arith
no_last text none never (arc ∷ arcs) dotted = let parts = last-dotted arc arcs text none dotted in never arc parts.0 parts.1

-- where the rest is none of arcs, the text is not
no_more : (text part rest : List ℕ) → text ≡ part ++ 46 ∷ rest → NoStop part → ((more : List ℕ) → ¬ IsDotted more rest) → (arcs : List ℕ) → ¬ IsDotted arcs text
no_more text part rest e none never [] dotted = let some = dotted.0 in omega arith
no_more text part rest e none never (arc ∷ arcs) dotted = never arcs (dotted-pop arc arcs text part rest e none dotted).2

-- an arc that was read follows those before it
pushed : (arc : ℕ) (before after more text : List ℕ) → after ≡ before ++ arc ∷ [] → IsDotted (before ++ arc ∷ more) text → IsDotted (after ++ more) text
pushed arc before after more text e dotted =
    let same : before ++ arc ∷ more ≡ after ++ more = sym (ap (λ xs. xs ++ more) e ∙ append_assoc before (arc ∷ []) more) in
    rw same at dotted

pub returns-in_default-arc_of : goal.returns-in_default-arc_of
returns-in_default-arc_of c =
    let parts = rw c.in-Some.is at (split_parts 46 c.loop-part.rest.now c.split_once.result c.split_once.ensures.cases (omega arith)) in
    c.loop-part.invariant.rest (no_arc c.loop-part.rest.now c.in-Some.part.now c.in-Some.more.now parts.0 parts.1 c.in_default-arc_of.ensures)

pub loop-part-preserved : goal.loop-part-preserved
loop-part-preserved c =
    let parts = rw c.in-Some.is at (split_parts 46 c.loop-part.rest.now c.split_once.result c.split_once.ensures.cases (omega arith)) in
    let arc = c.in-Some-arc_of.arc in
    record {
      text = search rules;
      whole = λ more dotted.
          pushed arc c.loop-part.arcs.items c.push.new.self.items more c.args.text.now c.in_ok-push.ensures.items
          (c.loop-part.invariant.whole (arc ∷ more) (dotted-push arc more c.loop-part.rest.now c.in-Some.part.now c.in-Some.more.now c.in-Some-arc_of.ensures.0 c.in-Some-arc_of.ensures.1 parts.0 dotted));
      rest = λ never.
          c.loop-part.invariant.rest (no_more c.loop-part.rest.now c.in-Some.part.now c.in-Some.more.now parts.0 parts.1 never);
    }

pub returns-in_default-arc_of-2 : goal.returns-in_default-arc_of-2
returns-in_default-arc_of-2 c =
    let none = rw c.in_default.is at (split_parts 46 c.loop-part.rest.now c.split_once.result c.split_once.ensures.cases (omega arith)) in
    c.loop-part.invariant.rest (no_last c.loop-part.rest.now none c.in_default-arc_of-2.ensures)

pub returns : goal.returns
returns c =
    let last = c.in-Some-arc_of-2.last in
    rw c.in_ok-push-2.ensures.items (c.loop-part.invariant.whole (last ∷ []) (dotted-last last c.loop-part.rest.now c.in-Some-arc_of-2.ensures.0 c.in-Some-arc_of-2.ensures.1))
