-- The standard limits of a base.
use Rattle.std.specs.Prelude.{◌≡◌}
use Rattle.sea_core.specs.declared.limits.Limits.{Limits}

-- the limits are the standard ones
pub record IsStandard (limits : Limits) : Type 0 where
  pub live_rows : limits.live_rows ≡ 100000
  pub live_bytes : limits.live_bytes ≡ 134217728
  pub archived_rows : limits.archived_rows ≡ 1000000
  pub slots : limits.slots ≡ 16384
  pub log_bytes : limits.log_bytes ≡ 268435456
  pub session_entries : limits.session_entries ≡ 4000000
  pub session_bytes : limits.session_bytes ≡ 536870912
