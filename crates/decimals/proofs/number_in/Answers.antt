use Rattle.std.proofs.Common.{◌∙◌}
use Rattle.decimals.proofs.Parsed.{plus_none, no_plus, no_text-none, text_same, parsed}
use Rattle.decimals.proofs.number_in.Goals as goal

pub returns-then-starts_with : goal.returns-then-starts_with
returns-then-starts_with c = plus_none _ c.starts_with.ensures.value c.if-starts_with.true

pub returns-in_err-ok : goal.returns-in_err-ok
returns-in_err-ok c =
    c.from_residual.ensures ∙ no_text-none _ _ _ c.from_utf8.ensures.cases c.ok.ensures.value c.in_err-ok.was

pub returns : goal.returns
returns c =
    let same = text_same _ _ _ _ c.from_utf8.ensures.cases c.ok.ensures.value c.in_ok-ok.was in
    c.ok-2.ensures.value ∙ parsed _ _ (rw same at c.parse.ensures.value.0) (no_plus c.args.bytes.now c.starts_with.ensures.value c.if-starts_with.false)
