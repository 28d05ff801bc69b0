use Rattle.script_reader.proofs.Common.{map, sym, ap, ◌∙◌, position_or_len, bytes_eq, string_bytes}
use Rattle.script_reader.specs.Input.{add_name}
use Rattle.script_reader.proofs.language.Grouped.Gathering.{any-map, keys-add, name-known, position-found, position-map}
use Rattle.script_reader.proofs.language.gathering.place_of.Goals as goal

pub returns-in-Some-clause-names : goal.returns-in-Some-clause-names
returns-in-Some-clause-names c = name-known c.args.name.now (sym (any-map string_bytes c.args.name.now c.args.names.now.keys) ∙ sym c.in-Some.ensures.found)

pub returns-in-Some-clause-place : goal.returns-in-Some-clause-place
returns-in-Some-clause-place c =
    sym (position-found _ c.args.names.now.keys (sym c.in-Some.ensures.index)) ∙ position-map string_bytes c.args.name.now c.args.names.now.keys

pub returns-clause-names : goal.returns-clause-names
returns-clause-names c = ap (map string_bytes) c.in_ok-place.ensures.keys
    ∙ keys-add string_bytes c.args.names.now.keys c.in_ok-from_str.field-0 ∙ ap (add_name (map string_bytes c.args.names.now.keys)) c.in_ok-from_str.ensures.ok

pub returns-clause-place : goal.returns-clause-place
returns-clause-place c =
    c.in_ok-place.ensures.index
    ∙ position-map string_bytes _ c.args.names.now.keys
    ∙ ap (λ name. position_or_len (bytes_eq name) (map string_bytes c.args.names.now.keys)) c.in_ok-from_str.ensures.ok
