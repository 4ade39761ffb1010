-- What is told of a text as it is made, before it is handed out.
use Rattle.std.specs.Prelude.{ℕ, List, [], map, Option, Some, None, String, string_bytes}
use Rattle.cedar_report.specs.declared.finding.Finding.{Finding}
use Rattle.cedar_answers.specs.Told.{PolicyTold, ScopeTold}
use Rattle.cedar_answers.specs.declared.made.MadeAnnotation.{MadeAnnotation}
use Rattle.cedar_answers.specs.declared.made.MadeEntity.{MadeEntity}
use Rattle.cedar_answers.specs.declared.made.MadeFault.{MadeFault}
use Rattle.cedar_answers.specs.declared.made.MadePolicy.{MadePolicy}
use Rattle.cedar_answers.specs.declared.made.MadeScope.{MadeScope}

-- a text, or no bytes where there is none
abbrev pub optional_text : {A : Type 0} → Option (String A) → List ℕ
optional_text None = []
optional_text (Some text) = string_bytes text

abbrev pub entity_made : MadeEntity → List ℕ × List ℕ
entity_made made = (string_bytes made.entity_type, string_bytes made.id)

abbrev pub entities_made : List MadeEntity → List (List ℕ × List ℕ)
entities_made all = map entity_made all

abbrev pub annotation_made : MadeAnnotation → List ℕ × List ℕ
annotation_made made = (string_bytes made.key, string_bytes made.value)

abbrev pub annotations_made : List MadeAnnotation → List (List ℕ × List ℕ)
annotations_made all = map annotation_made all

abbrev pub scope_made : MadeScope → ScopeTold
scope_made made = record {
  operator = made.operator.now;
  entity_type = string_bytes made.entity_type;
  entities = entities_made made.entities.items;
  is_slot = made.is_slot;
}

abbrev pub policy_made : MadePolicy → PolicyTold
policy_made made = record {
  id = string_bytes made.id;
  printed = string_bytes made.printed;
  annotations = annotations_made made.annotations.items;
  principal = scope_made made.scope.principal;
  action = scope_made made.scope.action;
  resource = scope_made made.scope.resource;
  place = made.place;
  is_template = made.is_template;
  is_forbid = made.is_forbid;
}

-- the finding that a fault is made of
abbrev pub finding_of : MadeFault → Finding
finding_of made = made.finding
