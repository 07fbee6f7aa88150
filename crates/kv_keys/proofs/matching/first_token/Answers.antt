use Rattle.std.proofs.Common.{lit<}
use Rattle.kv_keys.proofs.Tokens.{tokens_first, tokens_none}
use Rattle.kv_keys.proofs.matching.first_token.Goals as goal

pub returns-in-Some-clause-tokens : goal.returns-in-Some-clause-tokens
returns-in-Some-clause-tokens c =
    let at = c.in-Some.ensures.byte (lit< tt) (λ w o found. found) in
    rw (at.0, at.1) (tokens_first c.args.text.now at.2)

pub returns-in-None-clause-tokens : goal.returns-in-None-clause-tokens
returns-in-None-clause-tokens c =
    tokens_none c.args.text.now (c.in-None.ensures.byte (lit< tt) (λ w o found. found))
