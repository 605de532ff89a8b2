use Rattle.std.proofs.Common.{true}
use Rattle.ck_text.specs.ProofTexts.{whole_proof_scope}
use Rattle.ck_text.proofs.ProofReported.{proof_means, proof_is_low, proof_is_small, proof_syntax_fault, proof_depth_fault, proof_name_fault}
use Rattle.ck_text.proofs.proof_reading.read_proof.Goals as goal

pub returns-clause-means : goal.returns-clause-means
returns-clause-means c = proof_means true (whole_proof_scope c.args.decls.now c.args.scope.sorts c.args.scope.hyps) c.args.text.now c.proof.result c.proof.ensures

pub returns-clause-levels : goal.returns-clause-levels
returns-clause-levels c = proof_is_low true (whole_proof_scope c.args.decls.now c.args.scope.sorts c.args.scope.hyps) c.args.text.now c.proof.result c.proof.ensures

pub returns-clause-nodes : goal.returns-clause-nodes
returns-clause-nodes c = proof_is_small true (whole_proof_scope c.args.decls.now c.args.scope.sorts c.args.scope.hyps) c.args.text.now c.proof.result c.proof.ensures

pub returns-clause-syntax : goal.returns-clause-syntax
returns-clause-syntax c = proof_syntax_fault true (whole_proof_scope c.args.decls.now c.args.scope.sorts c.args.scope.hyps) c.args.text.now c.proof.result c.proof.ensures

pub returns-clause-deep : goal.returns-clause-deep
returns-clause-deep c = proof_depth_fault true (whole_proof_scope c.args.decls.now c.args.scope.sorts c.args.scope.hyps) c.args.text.now c.proof.result c.proof.ensures

pub returns-clause-unknown : goal.returns-clause-unknown
returns-clause-unknown c = proof_name_fault true (whole_proof_scope c.args.decls.now c.args.scope.sorts c.args.scope.hyps) c.args.text.now c.proof.result c.proof.ensures
