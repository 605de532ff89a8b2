use Rattle.std.proofs.Common.{subst, sym, ◌∙◌, arith}
use Rattle.cert_codec.specs.Tree.{CertificateTree, checked_tree}
use Rattle.cert_codec.specs.Spelling.{Spells}
use Rattle.cert_check.proofs.Built.{is_file, certificate_spelled, large_whichever, unproved_whichever}
use Rattle.cert_check.proofs.Sound.{keeps_promise}
use Rattle.cert_check.proofs.checking.check.Goals as goal

pub is_small-requires : goal.is_small-requires
is_small-requires c =
    let spells : Spells c.args.bytes.now (checked_tree c.named-certificate.result) = subst (λ (d : CertificateTree). Spells c.args.bytes.now d) (sym c.named-certificate.ensures) c.in-Ok.ensures.found in
    omega (arith, certificate_spelled c.args.bytes.now (checked_tree c.named-certificate.result) spells)

pub returns-then-not-is_small-clause-limits : goal.returns-then-not-is_small-clause-limits
returns-then-not-is_small-clause-limits c = λ _.
    let spells : Spells c.args.bytes.now (checked_tree c.named-certificate.result) = subst (λ (d : CertificateTree). Spells c.args.bytes.now d) (sym c.named-certificate.ensures) c.in-Ok.ensures.found in
    large_whichever c.args.bytes.now (checked_tree c.named-certificate.result) spells (λ small. absurd (cc (sym c.if-not-is_small.true ∙ c.is_small.ensures.1 small)))

pub returns-then-branch-clause-valid : goal.returns-then-branch-clause-valid
returns-then-branch-clause-valid c =
    let spells : Spells c.args.bytes.now (checked_tree c.named-certificate.result) = subst (λ (d : CertificateTree). Spells c.args.bytes.now d) (sym c.named-certificate.ensures) c.in-Ok.ensures.found in
    is_file c.args.bytes.now (checked_tree c.named-certificate.result) (omega arith) spells (c.is_small.ensures.0 c.if-not-is_small.false) (rw c.if-branch.true at c.in_ok-is_proved.ensures)

pub returns-then-branch-clause-promise : goal.returns-then-branch-clause-promise
returns-then-branch-clause-promise c = keeps_promise c.args.bytes.now

pub returns-else-branch-clause-unproved : goal.returns-else-branch-clause-unproved
returns-else-branch-clause-unproved c = λ _.
    let spells : Spells c.args.bytes.now (checked_tree c.named-certificate.result) = subst (λ (d : CertificateTree). Spells c.args.bytes.now d) (sym c.named-certificate.ensures) c.in-Ok.ensures.found in
    unproved_whichever c.args.bytes.now (checked_tree c.named-certificate.result) spells (c.is_small.ensures.0 c.if-not-is_small.false) (rw c.if-branch.false at c.in_ok-is_proved.ensures)
