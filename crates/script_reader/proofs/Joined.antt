-- Lists that are put together.
use Rattle.script_reader.proofs.Common.{append_assoc, append-nil, map-append, flat_map-append}

-- how lists in a row are written as one
pub ruleset joined = (append_assoc, append-nil, map-append, flat_map-append)
