-- What an engine of one operator makes is what the operator makes.
use Rattle.std.proofs.Common.{◌≡◌, ℕ, List, refl}
use Rattle.dpc_model.specs.Formula.{Formula}
use Rattle.dpc_model.specs.Engines.{engine_value, lone_operator}
use Rattle.dpc_model.specs.declared.tuples.Tagged.{Tagged}
use Rattle.dpc_model.specs.declared.operators.OpKind.TheVariants.{Filter, Map, Union}
use Rattle.dpc_model.proofs.Buckets.{lone-value}
use Rattle.ops_stateless.specs.FilterOp.{filter_value}
use Rattle.ops_stateless.specs.MapOps.{map_value}
use Rattle.ops_stateless.specs.Unions.{union_value}

pub filter-value : (e : Formula) (xs : List Tagged) (b : ℕ) → engine_value (lone_operator (Filter e) 1) xs b ≡ filter_value e xs b
filter-value e xs b = refl

pub map-value : (es : List Formula) (xs : List Tagged) (b : ℕ) → engine_value (lone_operator (Map es) 1) xs b ≡ map_value es xs b
map-value es xs b = refl

pub union-value : (n : ℕ) (xs : List Tagged) (b : ℕ) → engine_value (lone_operator Union n) xs b ≡ union_value n xs b
union-value n xs b = lone-value Union n xs b
