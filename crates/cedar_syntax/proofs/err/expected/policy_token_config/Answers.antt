use Rattle.std.proofs.Common.{codes}
use Rattle.cedar_syntax.proofs.err.expected.policy_token_config.Goals as goal

pub returns : goal.returns
returns c = λ i. record {
  friendly = c.in_ok-friendly_token_names.ensures i;
  impossible = c.in_ok-impossible_tokens.ensures i;
  special = c.in_ok-special_identifier_tokens.ensures i;
  identifier = codes "IDENTIFIER";
  first_words = c.in_ok-first_set_identifier_tokens.ensures i;
  first_set = codes "\"!\"";
}
