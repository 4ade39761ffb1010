use Rattle.std.proofs.Common.{subst}
use Rattle.cedar_lexer.specs.Token.{lexeme_of}
use Rattle.cedar_grammar.specs.machines.Judged.{done_as}
use Rattle.cedar_expression_machine.specs.declared.expression.state.Act.{Act}
use Rattle.cedar_expression_machine.specs.machines.WholeExpressions.{IsPlanned}
use Rattle.cedar_expression_machine.proofs.expressions.Acted.{follows_words, guard_acted, guard_begins, if_ok}
use Rattle.cedar_expression_machine.proofs.expressions.PlannedActs.{is_begun, is_followed, words_guard, words_reduce}
use Rattle.cedar_expression_machine.proofs.expression.state.State.act.Goals as goal

pub begin-requires-clause-is_begun : goal.begin-requires-clause-is_begun
begin-requires-clause-is_begun c =
    let s = c.args.self.now in
    let k = c.args.token.now.kind in
    is_begun s k c.in-Begin.begin (subst (λ (a : Act). IsPlanned s k a) c.in-Begin.is c.requires.is_planned)

pub reduce-requires : goal.reduce-requires
reduce-requires c =
    let s = c.args.self.now in
    let k = c.args.token.now.kind in
    (words_reduce s k c.in-Reduce.operator (subst (λ (a : Act). IsPlanned s k a) c.in-Reduce.is c.requires.is_planned)).0

pub follow-requires : goal.follow-requires
follow-requires c =
    let s = c.args.self.now in
    let k = c.args.token.now.kind in
    let i = words_reduce s k c.in-Reduce.operator (subst (λ (a : Act). IsPlanned s k a) c.in-Reduce.is c.requires.is_planned) in
    follows_words c.args.builder.source.now s c.reduce.new.self i.0 c.in_ok-reduce-in-Reduce.ensures c.in-Reduce.operator i.1

pub begin-requires-in-Guard-clause-is_begun : goal.begin-requires-in-Guard-clause-is_begun
begin-requires-in-Guard-clause-is_begun c =
    let s = c.args.self.now in
    let k = c.args.token.now.kind in
    let i = words_guard s k c.in-Guard.begin (subst (λ (a : Act). IsPlanned s k a) c.in-Guard.is c.requires.is_planned) in
    guard_begins s c.open_guard.new.self k c.in-Guard.begin c.in_ok-open_guard-in-Guard.ensures i.1

pub follow-requires-in-Follow : goal.follow-requires-in-Follow
follow-requires-in-Follow c =
    let s = c.args.self.now in
    let k = c.args.token.now.kind in
    is_followed s k c.in-Follow.operator (subst (λ (a : Act). IsPlanned s k a) c.in-Follow.is c.requires.is_planned)

pub returns-in_ok-open_guard-in-Guard : goal.returns-in_ok-open_guard-in-Guard
returns-in_ok-open_guard-in-Guard c =
    let s = c.args.self.now in
    let k = c.args.token.now.kind in
    let q = c.begin-in-Guard.new.self in
    let i = words_guard s k c.in-Guard.begin (subst (λ (a : Act). IsPlanned s k a) c.in-Guard.is c.requires.is_planned) in
    if_ok c.begin-in-Guard.result
    (λ read h. guard_acted c.args.builder.source.now s c.open_guard.new.self c.args.act c.in-Guard.begin (lexeme_of c.args.token.now)
    (done_as read q) i.0 c.in-Guard.is c.in_ok-open_guard-in-Guard.ensures h)
    c.begin-in-Guard.ensures
