use Rattle.std.proofs.Common.{rules, ◌≡◌, ◌<◌, ◌%◌, ◌++◌, ◌∷◌, [], length, map, Vec, Global, get_or, ◌+◌, refl, sym, ap, arith, ◌∙◌, append_assoc}
use Rattle.std.proofs.Math.Nat.{mod-lt}
use Rattle.std.proofs.lemmas.List.{get_or-map, length-append, length-map, map-append}
use Rattle.std.specs.Vec.Iter.{into_iter_items}
use Rattle.kv_model.specs.Requests.{asked}
use Rattle.kv_model.specs.declared.request.Request.{Request}
use Rattle.kv_run.specs.Dealing.{dealt}
use Rattle.kv_run.proofs.Dealt.{dealt-length, dealt-none, dealt-push}
use Rattle.kv_run.proofs.races.dealing.deal.Goals as goal

abbrev Script : Type 0
Script = Vec Request Global

pub loop-request-init : goal.loop-request-init
loop-request-init c = record {
  rest = search rules;
  count = refl;
  given = c.in_ok-scripts.ensures.ok ∙ dealt-none c.args.workers;
}

pub index_mut-requires : goal.index_mut-requires
index_mut-requires c =
    let same : length c.loop-request.scripts.items ≡ c.args.workers = dealt-length (λ script. map asked script.items) c.args.workers c.loop-request.scripts.items _ c.loop-request.invariant.given in
    omega (arith, same, mod-lt c.loop-request.count c.requires, c.loop-request.scripts.ok)

pub loop-request-preserved : goal.loop-request-preserved
loop-request-preserved c =
    let so_far = c.loop-request.invariant in
    let view = λ (script : Script). map asked script.items in
    let before = map asked c.loop-request.yielded in
    let request = asked c.in-Some.request in
    let scripts = c.loop-request.scripts.items in
    let index = c.loop-request.count % c.args.workers in
    let next : into_iter_items c.loop-request.request-iterator ≡ c.in-Some.request ∷ into_iter_items c.next.new.self = search rules in
    let same : length scripts ≡ c.args.workers = dealt-length view c.args.workers scripts _ so_far.given in
    let within : index < length scripts = omega (arith, same, mod-lt c.loop-request.count c.requires) in
    let found : c.index_mut.result.now ≡ get_or scripts index c.index_mut.result.now = search rules in
    let turn : c.loop-request.count % c.args.workers ≡ length before % c.args.workers = ap (λ n. n % c.args.workers) (so_far.count ∙ sym (length-map c.loop-request.yielded asked)) in
    record {
      rest = append_assoc c.loop-request.yielded (c.in-Some.request ∷ []) _ ∙ ap (λ t. c.loop-request.yielded ++ t) (sym next) ∙ so_far.rest;
      count = ap (λ n. n + 1) so_far.count ∙ sym (length-append c.loop-request.yielded (c.in-Some.request ∷ []));
      given = dealt-push view c.args.workers (c.loop-request.count % c.args.workers) c.loop-request.scripts.items before c.index_mut.result.now c.push.new.self request c.requires so_far.given turn
          (ap view found ∙ sym (get_or-map view scripts index c.index_mut.result.now [] within))
          (ap (map asked) c.in_ok-push.ensures.items ∙ map-append asked _ (c.in-Some.request ∷ []))
          ∙ ap (dealt c.args.workers) (sym (map-append asked c.loop-request.yielded (c.in-Some.request ∷ [])));
    }
