use Rattle.cedar_policy_parser.proofs.Alone as alone
use Rattle.cedar_policy_parser.proofs.standing.OwnPlaces as places
use Rattle.cedar_policy_parser.proofs.laws.refused_alone.Goals as goal

pub returns-clause-ambiguous : goal.returns-clause-ambiguous
returns-clause-ambiguous c = alone.ambiguous

pub returns-clause-ambiguous_alone : goal.returns-clause-ambiguous_alone
returns-clause-ambiguous_alone c = alone.ambiguous_alone

pub returns-clause-single_eq : goal.returns-clause-single_eq
returns-clause-single_eq c = alone.single_eq

pub returns-clause-single_eq_alone : goal.returns-clause-single_eq_alone
returns-clause-single_eq_alone c = alone.single_eq_alone

pub returns-clause-quotients : goal.returns-clause-quotients
returns-clause-quotients c = alone.refused_quotients

pub returns-clause-quotients_alone : goal.returns-clause-quotients_alone
returns-clause-quotients_alone c = alone.quotients_alone

pub returns-clause-bangs : goal.returns-clause-bangs
returns-clause-bangs c = alone.bangs

pub returns-clause-bangs_alone : goal.returns-clause-bangs_alone
returns-clause-bangs_alone c = alone.bangs_alone

pub returns-clause-dashes : goal.returns-clause-dashes
returns-clause-dashes c = alone.dashes

pub returns-clause-dashes_alone : goal.returns-clause-dashes_alone
returns-clause-dashes_alone c = alone.dashes_alone

pub returns-clause-repeated_key : goal.returns-clause-repeated_key
returns-clause-repeated_key c = alone.repeated_key

pub returns-clause-repeated_key_alone : goal.returns-clause-repeated_key_alone
returns-clause-repeated_key_alone c = alone.repeated_key_alone

pub returns-clause-lone_name : goal.returns-clause-lone_name
returns-clause-lone_name c = alone.lone_name

pub returns-clause-own_place : goal.returns-clause-own_place
returns-clause-own_place c = places.own_place

pub returns-clause-text_place : goal.returns-clause-text_place
returns-clause-text_place c = places.text_place
