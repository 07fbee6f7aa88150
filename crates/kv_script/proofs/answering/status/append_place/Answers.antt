use Rattle.kv_script.proofs.Lines.{place_line}
use Rattle.kv_script.proofs.answering.status.append_place.Goals as goal

pub returns-clause-ok : goal.returns-clause-ok
returns-clause-ok c =
    rw (c.as_str.ensures.value, c.in_ok-digits.ensures, c.to_be_bytes.ensures, place_line c.args.place) at c.append_object.ensures.ok
