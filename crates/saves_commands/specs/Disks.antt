-- The disks in memory that nodes save to.
use Rattle.std.specs.Prelude.{◌≡◌, ◌^◌}
use Rattle.disk_model.specs.declared.mem_disk.MemDisk.{MemDisk}

-- room for two slots
abbrev pub HasRoom : MemDisk → Type 0
HasRoom disk = disk.size ≡ 2 ^ 33
