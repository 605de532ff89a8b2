-- A node that proves its triple derives a program that meets it.
use Rattle.std.proofs.Common.{◌≡◌, ℕ, zero, suc, List, [], ◌∷◌, refl, sym, ap, ◌∙◌, subst}
use Rattle.ck_base.specs.declared.decl.Decl.{Decl}
use Rattle.sorted_terms.specs.Values.{State, IsState}
use Rattle.formulas.specs.Tree.{FormulaTree, joined, implies}
use Rattle.formulas.specs.Truth.{Truth}
use Rattle.type_checker.proofs.Sound.{sound}
use Rattle.cert_codec.specs.Tree.{NodeTree, skip, CertificateTree}
use Rattle.cert_check.specs.Programs.{ProgramTree}
use Rattle.cert_check.specs.Programs as program
use Rattle.cert_check.specs.Runs.{Configuration, Run, Step, StepOf, IsStuck, IsStuckAt, IsEnded, start, Meets}
use Rattle.cert_check.specs.Proves.{Proves, program_of}
use Rattle.cert_check.specs.Valid.{IsFileOf, KeepsPromise}

-- what a configuration promises
abbrev Promises : FormulaTree → Configuration → Type 0
Promises post now = (IsStuck now → ⊥) × (IsEnded now → Truth post now.state [])

-- a run of skip is at its start or has ended, with the state that it began in
skip_runs : (post : FormulaTree) (state : State) → Truth post state [] → (n : ℕ) (now : Configuration) → Run n (start program.skip state) now → Promises post now
skip_runs post state true_there zero now run =
    let todo : now.todo ≡ program.skip ∷ [] = ap (λ (c : Configuration). c.todo) run in
    ((λ stuck. subst (λ (ps : List ProgramTree). IsStuckAt ps now.state) todo stuck), (λ ended. absurd (cc (sym todo ∙ ended))))
skip_runs post state true_there (suc zero) now run =
    let todo : now.todo ≡ [] = ap (λ (c : Configuration). c.todo) run.2 ∙ run.1.0 in
    let same : now.state ≡ state = ap (λ (c : Configuration). c.state) run.2 ∙ run.1.1 in
    ((λ stuck. subst (λ (ps : List ProgramTree). IsStuckAt ps now.state) todo stuck), (λ ended. subst (λ (s : State). Truth post s []) (sym same) true_there))
skip_runs post state true_there (suc (suc n)) now run =
    absurd (subst (λ (ps : List ProgramTree). StepOf ps run.0.state run.2.0) run.1.0 run.2.1)

pub meets : (names : List Decl) (pre : FormulaTree) (node : NodeTree) (post : FormulaTree) → Proves names pre node post → Meets names pre (program_of node) post
meets names pre (skip p) post proved state is_state pre_true n now run =
    skip_runs post state (sound names [] [] p (joined implies pre post) proved state [] is_state tt tt pre_true) n now run

pub keeps_promise : (bytes : List ℕ) (c : CertificateTree) → IsFileOf c bytes → KeepsPromise c
keeps_promise bytes c file = meets c.names c.pre c.node c.post file.proved
