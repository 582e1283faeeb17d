-- Every policy chooses an actor that is ready, where one is.
-- Assumes nothing.
use Rattle.model.proofs.Scheduled.{Chooses}
use Rattle.model.proofs.Drawn.{draw-chooses}
use Rattle.policy.specs.Parts.{rule_of}
use Rattle.policy.specs.declared.Policy.{Policy}

pub policy-chooses : (policy : Policy) → Chooses (rule_of policy)
policy-chooses policy = draw-chooses
