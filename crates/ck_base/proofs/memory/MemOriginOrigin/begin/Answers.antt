use Rattle.std.proofs.Common.{rules, inr, ⊎_elim, refl}
use Rattle.ck_base.proofs.Files.{missing, there}
use Rattle.ck_base.proofs.memory.MemOriginOrigin.begin.Goals as goal

pub returns-in_default-clause-cause : goal.returns-in_default-clause-cause
returns-in_default-clause-cause c = inr (missing c.args.self.now.files c.args.name.now c.number_of.result (search rules) (search rules))

pub returns-in_default-clause-fails : goal.returns-in_default-clause-fails
returns-in_default-clause-fails c = ((λ _. inr (missing c.args.self.now.files c.args.name.now c.number_of.result (search rules) (search rules))), (λ _. refl))

pub returns-clause-fails : goal.returns-clause-fails
returns-clause-fails c =
    let h = c.in_ok-count.ensures in
    let k = c.in-Some.is in
    ((λ e. absurd (cc)), ⊎_elim (λ a. search rules) (λ n. absurd (there c.args.self.now.files c.args.name.now c.number_of.result c.in-Some.file (search rules) (search rules) n)))
