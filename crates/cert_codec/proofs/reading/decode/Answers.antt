use Rattle.std.proofs.Common.{subst, arith}
use Rattle.cert_codec.specs.Reading.{Fails, whole_of}
use Rattle.cert_codec.proofs.Whole.{is_spelled, no_spelling, is_malformed_at, left_within}
use Rattle.cert_codec.proofs.reading.decode.Goals as goal

pub overflow_sub-result : goal.overflow_sub-result
overflow_sub-result c =
    let e = subst (λ x. Fails x (whole_of c.args.bytes.now)) c.in-Err-Malformed.field-0-is c.in-Err-Malformed.ensures in
    omega (arith, left_within c.args.bytes.now e.0 e.1, e.2)

pub returns-in-Ok-clause-found : goal.returns-in-Ok-clause-found
returns-in-Ok-clause-found c = is_spelled c.args.bytes.now _ c.in-Ok.ensures

pub returns-in-Err-Malformed-clause-malformed : goal.returns-in-Err-Malformed-clause-malformed
returns-in-Err-Malformed-clause-malformed c =
    let e = subst (λ x. Fails x (whole_of c.args.bytes.now)) c.in-Err-Malformed.field-0-is c.in-Err-Malformed.ensures in
    no_spelling c.args.bytes.now e.0 e.1

pub returns-in-Err-Malformed-clause-place : goal.returns-in-Err-Malformed-clause-place
returns-in-Err-Malformed-clause-place c =
    let e = subst (λ x. Fails x (whole_of c.args.bytes.now)) c.in-Err-Malformed.field-0-is c.in-Err-Malformed.ensures in
    is_malformed_at c.args.bytes.now e.0 _ e.1 (omega (arith, left_within c.args.bytes.now e.0 e.1, e.2))
