-- Proves `unrelated_protected`: a slot of an owner that is unrelated to the adversary is protected; the example, by computation. Assumes nothing.
use mathlib.Core.Path.{refl}
use native.Mathlib.Omega.{arith}
use Rattle.lattice.specs.Tests.{◌and◌, ◌or◌, ◌implies◌, every, some, find}
use Rattle.lattice.specs.Order.{bit, in_range, reflexive, antisymmetric, transitive, is_meet, has_meets, is_top, has_top, good, meet, top}
use Rattle.values.specs.Result.{◌>>=◌, require, refused_as, in_turn}
use Rattle.values.specs.Bytes.{number_at, entries, filled}
use Rattle.values.specs.Value.{well_formed, value_at, opened, empty_slot}
use Rattle.store.specs.Sheet.{order_of, tables_of, opening_of, value_width_in, value_good, sizes_allowed, slot_checked, body_checked, sheet_checked, store_sheet}
use Rattle.isolation.specs.UnrelatedProtected.{UnrelatedProtected}

pub unrelated_protected : UnrelatedProtected
unfolding ◌and◌ ◌or◌ ◌implies◌ every some find bit in_range reflexive antisymmetric transitive is_meet has_meets is_top has_top good meet top
    ◌>>=◌ require refused_as in_turn number_at entries filled well_formed value_at opened empty_slot
    order_of tables_of opening_of value_width_in value_good sizes_allowed slot_checked body_checked sheet_checked store_sheet
unrelated_protected =
    record { opens = refl; not_above = refl; not_below = refl; protected = record { inside = omega arith; above = refl } }
