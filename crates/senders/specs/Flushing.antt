-- How what a voice says is written: PostgreSQL 15, 55.4. Streaming Replication Protocol.
use Rattle.std.specs.Prelude.{◌≡◌, ℕ, List, ◌++◌, Option}
use Rattle.std.specs.Io.KnownBytes.{Appends}
use Rattle.copy_both.specs.Voices.{voice_checked, voice_output, voice_stage}
use Rattle.copy_both.specs.declared.voice.Voice.{Voice}

-- Some first bytes of what waited were written, and wait no more.
pub record Flushes (before after : Option (List ℕ)) (old new : Voice) : Type 0 where
  pub bytes : List ℕ
  pub whole : voice_output old ≡ bytes ++ voice_output new
  pub checked : voice_checked new ≡ voice_checked old
  pub stage_is : voice_stage new ≡ voice_stage old
  pub put : Appends before after bytes
