-- Which templates are static policies.
use Rattle.std.specs.Prelude.{◌≡◌, [], Result, MatchResult, slice_get, Some}
use Rattle.cedar_policy_store.specs.declared.static_policy.NotStatic.{NotStatic}
use Rattle.cedar_policy_store.specs.declared.static_policy.NotStatic.TheVariants.{Memory, UnexpectedSlot}
use Rattle.cedar_policy_store.specs.declared.static_policy.RefusedTemplate.{RefusedTemplate}
use Rattle.cedar_policy_store.specs.declared.static_policy.UnexpectedSlotError.TheVariants.{FoundSlot}
use Rattle.cedar_policy_store.specs.declared.template.Template.{Template}
use Rattle.cedar_policy_store.specs.TemplateSlots.{template_slots}

-- the first slot of a template, as a refusal names it; want of memory says nothing of slots
abbrev pub IsReason : Template → NotStatic → Type 0
IsReason template (Memory _) = Unit {0}
IsReason template (UnexpectedSlot (FoundSlot slot)) =
    slice_get (template_slots template) 0 ≡ Some slot

-- the same template, where it has no slot; else its first slot, and the template as it was
abbrev pub AnswersStatic : Template → Result Template RefusedTemplate → Type 0
AnswersStatic template answer =
    MatchResult answer
    (λ policy. (policy ≡ template) × (template_slots template ≡ []))
    (λ refused. (refused.template ≡ template) × IsReason template refused.reason)
