pub mod Counted
pub mod Going
pub mod Alone
pub mod Lines
pub mod Whole
pub use Rattle.kernel_calls.proofs.Removing as KernelCallsRemoving
pub use Rattle.kernel_calls.proofs.Passing as KernelCallsPassing
pub use Rattle.kernel_calls.proofs.Departing as KernelCallsDeparting
pub use Rattle.kernel_calls.proofs.Serves as KernelCallsServes
pub use Rattle.kernel_calls.proofs.Reading as KernelCallsReading
pub use Rattle.kernel_calls.proofs.KernelWorldGoes
pub use Rattle.kernel_calls.proofs.KernelWorldObjectMoves
pub use Rattle.kernel_calls.proofs.SemMutexAtOnce
pub use Rattle.kernel_calls.proofs.KernelWorldLiving
pub use Rattle.kernel_calls.proofs.KernelWorldAdvancing
pub use Rattle.kernel_calls.proofs.KernelWorldLiveIds
pub use Rattle.kernel_calls.proofs.KernelWorldWorldIds
pub use Rattle.kernel_calls.proofs.KernelWorldHolding
pub use Rattle.kernel_calls.proofs.KernelWorldStacks
pub use Rattle.kernel_calls.proofs.KernelWorldBoards
pub use Rattle.kernel_calls.proofs.KernelWorldOpened
pub use Rattle.kernel_calls.proofs.KernelWorldSettling
pub use Rattle.kernel_calls.proofs.KernelWorldCalming
