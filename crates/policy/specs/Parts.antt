-- The rule of the model that a policy is, with what it keeps; and what a turn by it is.
-- Assumes nothing: these are definitions.
use Rattle.std.specs.Prelude.{◌≡◌, ℕ, Bool}
use Rattle.model.specs.Ready.{mask_of}
use Rattle.model.specs.Scheduler.{Rule}
use Rattle.model.specs.Draw.{drawing}
use Rattle.policy.specs.declared.Policy.{Policy}

abbrev pub rule_of : Policy → Rule
rule_of policy = drawing

abbrev pub kept_of : Policy → ℕ
kept_of policy = policy.x

-- of whatever tests the mask is, the actor is the one that the rule chooses; and the policy goes on by the same rule with what it then keeps
pub record TurnRight (policy : Policy) (mask actor : ℕ) (after : Policy) : Type 0 where
  pub chosen : (is_ready : ℕ → Bool) (actors : ℕ) → mask ≡ mask_of is_ready actors 0
      → actor ≡ (rule_of policy).chooses (kept_of policy) is_ready actors
  pub same-rule : rule_of after ≡ rule_of policy
  pub keeps : kept_of after ≡ (rule_of policy).keeps (kept_of policy) actor
