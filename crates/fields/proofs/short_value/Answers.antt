use Rattle.std.proofs.Common.{rules}
use Rattle.fields.proofs.Headers.{short_value_header, short_value-behind}
use Rattle.fields.proofs.short_value.Goals as goal

pub returns-then-bytes-lt-HEADER : goal.returns-then-bytes-lt-HEADER
returns-then-bytes-lt-HEADER c = search (rules, short_value_header)

pub returns : goal.returns
returns c = search (rules, short_value-behind)
