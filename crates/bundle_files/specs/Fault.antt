-- Which fault of loading a fault of the folder is.
use Rattle.text_core.specs.declared.outside.FolderFault.{FolderFault}
use Rattle.text_core.specs.declared.outside.FolderFault.TheVariants as folder_fault
use Rattle.bundle_files.specs.declared.fault.LoadFault.{LoadFault}
use Rattle.bundle_files.specs.declared.fault.LoadFault.TheVariants as load_fault

abbrev pub fault_of : FolderFault → LoadFault
fault_of folder_fault.Failed = load_fault.ReadFault
fault_of folder_fault.OutOfMemory = load_fault.OutOfMemory
